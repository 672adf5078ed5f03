use Rattle.merge_gens.proofs.RowLists.{entries_from_are}
use Rattle.merge_gens.proofs.index.GenerationIndex.entries_from.Goals as goal

pub returns-clause-entries : goal.returns-clause-entries
returns-clause-entries c = rw (← c.self.view_is) (entries_from_are c.self.inside.entries.rows _ c.args.first c.self.invariant (c.range.ensures.between tt))
