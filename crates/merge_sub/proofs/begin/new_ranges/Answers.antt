use Rattle.merge_batch.proofs.Search.{drop-at}
use Rattle.merge_sub.proofs.Begun.{begin-step}
use Rattle.merge_sub.proofs.begin.new_ranges.Goals as goal

pub loop-place-preserved : goal.loop-place-preserved
loop-place-preserved c =
    rw c.in_ok-add_ranges.ensures
    (begin-step c.args.articles.now _ _ c.index-articles-place.result
    (drop-at c.args.articles.now c.loop-place.place c.index-articles-place.result c.loop-place-test.true c.index-articles-place.is) c.loop-place.invariant)
