-- The seat stands as it was noted last, and as many connections were taken as there were turns.
use Rattle.std.proofs.Common.{◌≤◌}
use Rattle.merge_serve.specs.Closing.{IsLater, WasClosedAs}
use Rattle.merge_serve.proofs.serving.work_rest.Given as goal

abbrev pub invariant-loop : goal.invariant-loop
invariant-loop g l = WasClosedAs l.seat l.seat × IsLater l.initial.seat l.seat × (l.counter ≤ l.entrance.accepted)
