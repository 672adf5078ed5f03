use Rattle.std.proofs.Common.{◌≡◌, min, take, ◌^◌, ◌-◌}
use Rattle.std.specs.List.{zip}
use Rattle.merge_units.specs.Cases.{united_weight}
use Rattle.merge_units.proofs.case.are_long.Given as goal

-- what the pairs so far count
abbrev pub invariant-loop-at : goal.invariant-loop-at
invariant-loop-at l = l.total ≡ min (united_weight (take l.at (zip l.ours l.theirs))) (2 ^ 64 - 1)
