use Rattle.std.proofs.Common.{◌≡◌, take}
use Rattle.merge_steps.specs.Rows as row
use Rattle.merge_steps.proofs.edits.moved_edits.Given as goal

abbrev pub invariant-loop-edit : goal.invariant-loop-edit
invariant-loop-edit l = l.moved.items ≡ row.moved_edits l.mappings.rows (take l.edit-index l.edits)
