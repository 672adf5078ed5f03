use Rattle.merge_gens.specs.Entries.{entry_cmp, entry_exact}
use Rattle.merge_table.proofs.Sorted.{sorted_put}
use Rattle.merge_gens.proofs.Sets.{set_put}
use Rattle.merge_gens.proofs.EntryLists.{entry_total}
use Rattle.merge_gens.proofs.index.GenerationIndex.put.Goals as goal

pub invariant_of-self-2 : goal.invariant_of-self-2
invariant_of-self-2 c = rw c.in_ok-insert.ensures.rows (sorted_put entry_cmp entry_total _ tt _ c.self.invariant)

pub returns-clause-ok : goal.returns-clause-ok
returns-clause-ok c = rw (c.in_ok-insert.ensures.rows, ← c.self.view_is) (set_put entry_cmp entry_total entry_exact _ tt c.self.inside.entries.rows)
