use Rattle.merge_sub.proofs.Begun.{Beginning}
use Rattle.merge_sub.proofs.begin.new_ranges.Given as goal

abbrev pub invariant-loop-place : goal.invariant-loop-place
invariant-loop-place l = Beginning l.articles l.held.rows l.place
