use Rattle.std.specs.Prelude.{◌≡◌, ◌++◌}
use Rattle.merge_sub.specs.Anew.{dropped_rows}
use Rattle.merge_sub.proofs.anew.dropped_rows.Given as goal

abbrev pub invariant-loop-key : goal.invariant-loop-key
invariant-loop-key l = l.edits ++ dropped_rows l.key-iterator ≡ dropped_rows l.rows.rows
