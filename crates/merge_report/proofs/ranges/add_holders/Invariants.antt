-- The lines of the articles so far.
use Rattle.std.proofs.Common.{◌≡◌, ◌++◌, take, string_bytes}
use Rattle.std.specs.List.{flat_map}
use Rattle.merge_model.specs.Script.Play.{names_of}
use Rattle.merge_model.specs.Script.Text.{holder_line}
use Rattle.merge_report.proofs.ranges.add_holders.Given as goal

abbrev pub invariant-loop-holder : goal.invariant-loop-holder
invariant-loop-holder l = string_bytes l.text ≡ string_bytes l.initial.text ++ flat_map (holder_line (names_of l.publication)) (take l.holder-index l.holders)
