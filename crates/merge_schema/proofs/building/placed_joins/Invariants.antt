use Rattle.std.proofs.Common.{◌≡◌, take, map}
use Rattle.merge_schema.specs.Building.{placed_join}
use Rattle.merge_schema.proofs.building.placed_joins.Given as goal

abbrev pub invariant-loop-join : goal.invariant-loop-join
invariant-loop-join l = l.placed ≡ map (placed_join l.articles l.columns) (take l.join-index l.joins)
