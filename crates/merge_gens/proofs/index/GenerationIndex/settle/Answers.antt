use Rattle.merge_gens.specs.Entries.{entry_cmp}
use Rattle.merge_table.proofs.Sorted.{sorted_after_all}
use Rattle.merge_gens.proofs.EntryLists.{entry_total, set_by_all, compact_rows}
use Rattle.merge_gens.proofs.index.GenerationIndex.settle.Goals as goal

pub invariant_of-self : goal.invariant_of-self
invariant_of-self c = rw c.apply_and_sweep.ensures.rows (sorted_after_all entry_cmp entry_total c.self.inside.entries.rows c.into_vec.result.items c.self.invariant)

pub returns-clause-entries : goal.returns-clause-entries
returns-clause-entries c = rw (c.apply_and_sweep.ensures.rows, ← c.self.view_is, ← c.into_vec.ensures) (set_by_all c.self.inside.entries.rows c.into_vec.result.items c.self.invariant)

pub returns-clause-compact : goal.returns-clause-compact
returns-clause-compact c = compact_rows _ _ (rw c.apply_and_sweep.ensures.rows (sorted_after_all entry_cmp entry_total c.self.inside.entries.rows c.into_vec.result.items c.self.invariant)) c.apply_and_sweep.ensures.spare
