use Rattle.std.proofs.Common.{◌≡◌, ◌++◌, drop}
use Rattle.std.specs.Prelude.{filter_map}
use Rattle.std.specs.List.{enumerate_from}
use Rattle.merge_resolve.specs.Questions.{both_place}
use Rattle.merge_resolve.proofs.question.both_places.Given as goal

-- the places so far and those of what is left are all
abbrev pub invariant-loop-at : goal.invariant-loop-at
invariant-loop-at l = l.places.items ++ filter_map both_place (enumerate_from l.at (drop l.at l.sides)) ≡ filter_map both_place (enumerate_from 0 l.sides)
