use Rattle.std.specs.Prelude.{◌≡◌, ◌++◌, drop, filter_map}
use Rattle.merge_sub.specs.Taking.{granted}
use Rattle.merge_sub.proofs.reply.received_ranges.Given as goal

abbrev pub invariant-loop-grant : goal.invariant-loop-grant
invariant-loop-grant l = l.edits ++ filter_map (granted l.held.rows) (drop l.grant-index l.grants) ≡ filter_map (granted l.held.rows) l.grants
