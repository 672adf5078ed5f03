use Rattle.std.proofs.Common.{◌≡◌}
use Rattle.merge_base_tests.proofs.ident.takes_what_was_received.Given as goal

-- two ranges were received
abbrev pub invariant-loop-value : goal.invariant-loop-value
invariant-loop-value g l = l.ranges.have ≡ 2
