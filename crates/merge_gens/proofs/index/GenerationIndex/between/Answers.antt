use Rattle.merge_gens.proofs.RowLists.{rows_between_are, cut_back}
use Rattle.merge_gens.proofs.index.GenerationIndex.between.Goals as goal

pub returns-in-Ok-clause-rows : goal.returns-in-Ok-clause-rows
returns-in-Ok-clause-rows c = rw (← c.self.view_is) (rows_between_are c.self.inside.entries.rows c.args.from c.args.to _ _ c.self.invariant c.in-Ok.ensures.rows)
