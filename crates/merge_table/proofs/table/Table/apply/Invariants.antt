use Rattle.std.specs.Vec.Iter.{into_iter_items}
use Rattle.merge_table.proofs.Edits.{Applying}
use Rattle.merge_table.proofs.table.Table.apply.Given as goal

abbrev pub invariant-loop-edit : goal.invariant-loop-edit
invariant-loop-edit g l = Applying g.K.Ord.cmp l.initial.self l.self l.fn.edits.items (into_iter_items l.edit-iterator)
