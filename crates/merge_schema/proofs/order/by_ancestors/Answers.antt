use Rattle.merge_schema.proofs.Ranks.{one_more_ranked}
use Rattle.merge_schema.proofs.order.by_ancestors.Goals as goal

pub loop-place-preserved : goal.loop-place-preserved
loop-place-preserved c = one_more_ranked c.args.articles.now c.loop-place.place _ _ _ _ _ c.in_ok-marked.ensures c.as_slice.ensures.value c.ancestors_among-ancestors.ensures c.loop-place.invariant c.in_ok-put.ensures
