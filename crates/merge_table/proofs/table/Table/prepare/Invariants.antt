use Rattle.merge_table.proofs.Edits.{Preparing}
use Rattle.merge_table.proofs.table.Table.prepare.Given as goal

abbrev pub invariant-loop-edit : goal.invariant-loop-edit
invariant-loop-edit g l = Preparing g.K.Ord.cmp l.initial.self l.self l.edits l.edit-index
