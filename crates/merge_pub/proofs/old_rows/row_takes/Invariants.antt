use Rattle.std.specs.Prelude.{◌≡◌, map, take}
use Rattle.merge_steps.specs.Purging.{take_row}
use Rattle.merge_pub.proofs.old_rows.row_takes.Given as goal

abbrev pub invariant-loop-entry : goal.invariant-loop-entry
invariant-loop-entry l = l.edits ≡ map take_row (take l.entry-index l.gone)
