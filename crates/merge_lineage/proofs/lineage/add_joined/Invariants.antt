use Rattle.std.proofs.Common.{◌≡◌, ◌≤◌, ◌+◌, ◌++◌, length, vec_len}
use Rattle.std.specs.Vec.{vec_capacity}
use Rattle.merge_lineage.specs.Lineage.{IsAscending, joined}
use Rattle.merge_lineage.proofs.lineage.add_joined.Given as goal

-- the dots so far and the join of what is left are all
abbrev pub invariant-loop-dot : goal.invariant-loop-dot
invariant-loop-dot l = record {
  dots : l.dots.items ++ joined l.here l.there ≡ l.fn.dots.items ++ joined l.ours l.theirs;
  room : vec_len l.dots + (length l.here + length l.there) ≤ vec_capacity l.dots;
  here : IsAscending l.here;
  there : IsAscending l.there;
}

abbrev pub decreases-loop-dot : goal.decreases-loop-dot
decreases-loop-dot l = length l.here + length l.there
