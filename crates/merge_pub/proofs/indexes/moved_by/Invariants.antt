use Rattle.std.specs.Prelude.{◌≡◌, [], drop, map}
use Rattle.merge_table.specs.Edits.{rows_after_all}
use Rattle.merge_steps.specs.MoveEntries.{move_entry_cmp}
use Rattle.merge_pub.specs.Restoring.{moved_put}
use Rattle.merge_pub.proofs.indexes.moved_by.Given as goal

abbrev pub invariant-loop-place : goal.invariant-loop-place
invariant-loop-place l = rows_after_all move_entry_cmp l.table.rows (map moved_put (drop l.place-index l.mappings)) ≡ rows_after_all move_entry_cmp [] (map moved_put l.mappings)
