use Rattle.std.proofs.Common.{◌≡◌, ◌≤◌, ◌+◌, ◌-◌, ◌^◌, min, drop}
use Rattle.merge_resolve.specs.Counted.{kept_length}
use Rattle.merge_resolve.proofs.counted.kept_length.Given as goal

-- the bytes so far and those of what is left are those of all
abbrev pub invariant-loop-at : goal.invariant-loop-at
invariant-loop-at l = record {
  bytes : min (l.total + kept_length (drop l.at l.sides) (drop l.at l.ours) (drop l.at l.theirs)) (2 ^ 64 - 1) ≡ min (kept_length l.sides l.ours l.theirs) (2 ^ 64 - 1);
  small : l.total ≤ 2 ^ 64 - 1;
}
