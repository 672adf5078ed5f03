use Rattle.std.proofs.Common.{◌≡◌, map}
use Rattle.merge_schema.specs.ParentsFirst.{ancestors_of, ordered_below}
use Rattle.merge_schema.specs.Ranks.{ranked_at}
use Rattle.merge_schema.proofs.order.by_ancestors.Given as goal

abbrev pub invariant-loop-place : goal.invariant-loop-place
invariant-loop-place l = l.order.items ≡ map (ranked_at l.articles) (ordered_below (ancestors_of l.articles) l.place)
