-- The file was read and has the subscription, or not.
use Rattle.std.proofs.lemmas.Result.{err_from_is_err_and}
use Rattle.merge_program.proofs.Syncs.{by-file, by-subscription, by-text, is-subscribed}
use Rattle.merge_program.proofs.sync.read_subscribed.Goals as goal

pub returns-clause-subscribed : goal.returns-clause-subscribed
returns-clause-subscribed g c = is-subscribed _ _ _ 0 0 _ c.in_ok-text.ensures.whole c.in_ok-text.ensures.fits _ c.as_slice.ensures _ c.in_ok-publication.ensures.answer c.in_ok-check_subscription.ensures.ok

pub returns-in_err-text-clause-ends : goal.returns-in_err-text-clause-ends
returns-in_err-text-clause-ends g c =
    let p = err_from_is_err_and c.from_residual.result c.from_residual.ensures.1 in
    rw (p.1, p.2) (by-file ((g.E.CommandOutside.offers c.args.outside.now).texts c.args.place.now.publication) c.args.resolvers c.args.place.now.site (g.E.Outside.counts c.args.outside.now).texts (g.E.Outside.counts c.read_file.new.outside).texts _ c.in_err-text.ensures.unread)

pub returns-in_err-publication-clause-ends : goal.returns-in_err-publication-clause-ends
returns-in_err-publication-clause-ends g c =
    let p = err_from_is_err_and c.from_residual-in_err-publication.result c.from_residual-in_err-publication.ensures.1 in
    rw (p.1, p.2) (by-text ((g.E.CommandOutside.offers c.args.outside.now).texts c.args.place.now.publication) c.args.resolvers c.args.place.now.site (g.E.Outside.counts c.args.outside.now).texts (g.E.Outside.counts c.read_file.new.outside).texts _ c.in_ok-text.ensures.whole c.in_ok-text.ensures.fits _ c.as_slice.ensures _ c.in_err-publication.ensures.refused)

pub returns-in_err-check_subscription-clause-ends : goal.returns-in_err-check_subscription-clause-ends
returns-in_err-check_subscription-clause-ends g c =
    let p = err_from_is_err_and c.from_residual-in_err-check_subscription.result c.from_residual-in_err-check_subscription.ensures.1 in
    rw (p.1, p.2) (by-subscription ((g.E.CommandOutside.offers c.args.outside.now).texts c.args.place.now.publication) c.args.resolvers c.args.place.now.site (g.E.Outside.counts c.args.outside.now).texts (g.E.Outside.counts c.read_file.new.outside).texts _ c.in_ok-text.ensures.whole c.in_ok-text.ensures.fits _ c.as_slice.ensures _ _ c.in_ok-publication.ensures.answer c.in_err-check_subscription.ensures.err)
