use Rattle.std.proofs.Common.{◌≡◌, length, map}
use Rattle.std.specs.List.{range_with_len}
use Rattle.merge_schema.specs.Ancestors.{descendants_within}
use Rattle.merge_schema.proofs.order.descendants_of_each.Given as goal

abbrev pub invariant-loop-place : goal.invariant-loop-place
invariant-loop-place l = l.marked.items ≡ map (descendants_within (length l.articles) l.articles) (range_with_len 0 l.place)
