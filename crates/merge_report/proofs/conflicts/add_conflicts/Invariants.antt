-- The lines of the versions so far.
use Rattle.std.proofs.Common.{◌≡◌, ◌++◌, take, string_bytes}
use Rattle.std.specs.List.{flat_map}
use Rattle.merge_model.specs.Script.Play.{names_of}
use Rattle.merge_model.specs.Script.Text.{conflict_line}
use Rattle.merge_report.proofs.conflicts.add_conflicts.Given as goal

abbrev pub invariant-loop-row : goal.invariant-loop-row
invariant-loop-row l = string_bytes l.text ≡ string_bytes l.initial.text ++ flat_map (conflict_line (names_of l.publication)) (take l.row-index l.rows)
