use Rattle.std.proofs.Common.{drop}
use Rattle.merge_desk.proofs.Matching.{DecidesAll}
use Rattle.merge_desk.proofs.comparing.compare_all.Given as goal

abbrev pub invariant-loop-seat : goal.invariant-loop-seat
invariant-loop-seat g l = DecidesAll l.journal l.seats (drop l.seat-index l.seats)
