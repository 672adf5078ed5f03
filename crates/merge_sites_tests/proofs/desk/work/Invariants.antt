use Rattle.std.proofs.Common.{◌≡◌}
use Rattle.merge_sites_tests.proofs.desk.work.Given as goal

abbrev pub invariant-loop-seq : goal.invariant-loop-seq
invariant-loop-seq g l = (l.seat.call_parts ≡ l.initial.seat.call_parts) × (l.seat.fault_parts ≡ l.initial.seat.fault_parts)
