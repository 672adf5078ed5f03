-- The lines end as they do.
use Rattle.merge_program.proofs.Changes.{lines-end}
use Rattle.merge_program.proofs.change.change_sites.Goals as goal

pub returns-clause-ends : goal.returns-clause-ends
returns-clause-ends g c = let e = c.change_lines-changed.ensures in lines-end _ _ _ _ _ _ _ _ _ _ _ _ c.ending_of.ensures e.whole e.done e.halted e.before e.write
