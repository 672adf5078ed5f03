use Rattle.std.proofs.Common.{◌≡◌}
use Rattle.merge_schema.specs.Ancestors.{descendants_within}
use Rattle.merge_schema.proofs.joins.descendants.Given as goal

abbrev pub invariant-loop : goal.invariant-loop
invariant-loop l = l.marks ≡ descendants_within l.counter l.articles l.place
