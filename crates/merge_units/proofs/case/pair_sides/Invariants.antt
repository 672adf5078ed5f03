use Rattle.std.proofs.Common.{◌≡◌, take, map}
use Rattle.std.specs.List.{zip}
use Rattle.merge_lineage.specs.Lineage.{knows}
use Rattle.merge_units.specs.Cases.{side_of}
use Rattle.merge_units.proofs.case.pair_sides.Given as goal

-- the sides so far
abbrev pub invariant-loop-at : goal.invariant-loop-at
invariant-loop-at l = l.sides.items ≡ map (side_of l.long (knows l.here) (knows l.there)) (take l.at (zip l.ours l.theirs))
