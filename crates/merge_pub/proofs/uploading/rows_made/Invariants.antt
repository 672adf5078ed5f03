use Rattle.std.specs.Prelude.{◌≡◌, count_by, take}
use Rattle.merge_steps.specs.Uploading.{makes_row_in}
use Rattle.merge_pub.proofs.uploading.rows_made.Given as goal

abbrev pub invariant-loop-item : goal.invariant-loop-item
invariant-loop-item l = l.made ≡ count_by (makes_row_in l.rows.rows l.arrival) (take l.item-index l.items)
