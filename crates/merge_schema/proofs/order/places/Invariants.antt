use Rattle.std.proofs.Common.{◌≡◌, map, take}
use Rattle.merge_schema.specs.Ranks.{place_in}
use Rattle.merge_schema.proofs.order.places.Given as goal

abbrev pub invariant-loop-article : goal.invariant-loop-article
invariant-loop-article l = l.places ≡ map place_in (take l.article-index l.order)
