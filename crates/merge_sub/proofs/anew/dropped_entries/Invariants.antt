use Rattle.std.specs.Prelude.{◌≡◌, ◌++◌}
use Rattle.merge_sub.specs.Anew.{dropped_entries}
use Rattle.merge_sub.proofs.anew.dropped_entries.Given as goal

abbrev pub invariant-loop-key : goal.invariant-loop-key
invariant-loop-key l = l.changes ++ dropped_entries l.key-iterator ≡ dropped_entries l.rows.rows
