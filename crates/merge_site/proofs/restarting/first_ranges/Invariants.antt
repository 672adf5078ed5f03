use Rattle.merge_sub.proofs.Begun.{Beginning}
use Rattle.merge_site.proofs.restarting.first_ranges.Given as goal

abbrev pub invariant-loop-place : goal.invariant-loop-place
invariant-loop-place l = Beginning l.articles l.held l.place
