use Rattle.std.proofs.Common.{refl, length}
use Rattle.std.proofs.lemmas.Option.{slice_get_read}
use Rattle.merge_steps.proofs.Identities.{holders-step}
use Rattle.merge_pub.proofs.beginning.new_holders.Goals as goal

pub loop-place-preserved : goal.loop-place-preserved
loop-place-preserved c =
    let sliced = c.as_slice-articles.result.now in
    let there = slice_get_read sliced (length sliced) c.loop-place.place c.index-articles-place.result refl c.loop-place-test.true c.index-articles-place.is in
    holders-step c.args.publication.now.articles c.loop-place.place c.index-articles-place.result _ _ c.loop-place.invariant (rw c.as_slice-articles.ensures at there) c.in_ok-hold_none.ensures
