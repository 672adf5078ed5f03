use Rattle.std.proofs.Common.{◌≡◌, ◌+◌, length, drop}
use Rattle.merge_units.specs.Results.{taken_count}
use Rattle.merge_units.proofs.conditions.are_taken.Given as goal

-- those that are left are as many more or fewer than the rest takes as all were
abbrev pub invariant-loop-at : goal.invariant-loop-at
invariant-loop-at l = length l.values + taken_count l.decision (drop l.at l.sides) (drop l.at l.cells) ≡ l.left + taken_count l.decision l.sides l.cells
