-- The lines of the subscriptions so far.
use Rattle.std.proofs.Common.{◌≡◌, ◌++◌, take, string_bytes}
use Rattle.std.specs.List.{flat_map}
use Rattle.merge_model.specs.Script.Text.{subscription_line}
use Rattle.merge_report.proofs.generations.add_publisher.Given as goal

abbrev pub invariant-loop-standing : goal.invariant-loop-standing
invariant-loop-standing l = string_bytes l.text ≡ string_bytes l.initial.text ++ flat_map subscription_line (take l.standing-index l.sites)
