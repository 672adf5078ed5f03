-- The lines of the grants so far.
use Rattle.std.proofs.Common.{◌≡◌, ◌++◌, take, string_bytes}
use Rattle.std.specs.List.{flat_map}
use Rattle.merge_model.specs.Script.Play.{names_of}
use Rattle.merge_model.specs.Script.Text.{grant_line}
use Rattle.merge_report.proofs.ranges.add_grants.Given as goal

abbrev pub invariant-loop-grant : goal.invariant-loop-grant
invariant-loop-grant l = string_bytes l.text ≡ string_bytes l.initial.text ++ flat_map (grant_line (names_of l.publication)) (take l.grant-index l.grants)
