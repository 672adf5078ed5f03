-- The seat stands as it was noted last.
use Rattle.merge_serve.specs.Closing.{IsLater, WasClosedAs}
use Rattle.merge_serve.proofs.serving.work.Given as goal

abbrev pub invariant-loop : goal.invariant-loop
invariant-loop g l = WasClosedAs l.seat l.seat × IsLater l.initial.seat l.seat
