-- The file and the input were read, or not.
use Rattle.std.proofs.Common.{refl}
use Rattle.std.proofs.lemmas.Result.{err_from_is_err_and}
use Rattle.merge_program.proofs.Changes.{by-file, by-input, by-site, by-text, is-given}
use Rattle.merge_program.proofs.Readings.{counted-through}
use Rattle.merge_program.proofs.change.read_given.Goals as goal

pub returns-clause-given : goal.returns-clause-given
returns-clause-given g c = is-given _ _ _ _ 0 0 0 0 _ c.in_ok-text.ensures.whole c.in_ok-text.ensures.fits _ c.as_slice.ensures _ c.in_ok-publication.ensures.answer c.in_ok-check_site.ensures.ok _ c.in_ok-script.ensures.whole c.in_ok-script.ensures.fits

pub returns-in_err-text-clause-ends : goal.returns-in_err-text-clause-ends
returns-in_err-text-clause-ends g c =
    let p = err_from_is_err_and c.from_residual.result c.from_residual.ensures.1 in
    rw (p.1, p.2) (by-file ((g.E.CommandOutside.offers c.args.outside.now).texts c.args.place.now.publication) (g.I.Source.left c.args.input.now) c.args.resolvers c.args.place.now.site (g.E.Outside.counts c.args.outside.now).texts (g.E.Outside.counts c.read_file.new.outside).texts (g.I.Source.count c.args.input.now) (g.I.Source.count c.args.input.now) _ refl c.in_err-text.ensures.unread)

pub returns-in_err-script-clause-ends : goal.returns-in_err-script-clause-ends
returns-in_err-script-clause-ends g c =
    let p = err_from_is_err_and c.from_residual-in_err-script.result c.from_residual-in_err-script.ensures.1 in
    rw (p.1, p.2) (by-input ((g.E.CommandOutside.offers c.args.outside.now).texts c.args.place.now.publication) (g.I.Source.left c.args.input.now) c.args.resolvers c.args.place.now.site (g.E.Outside.counts c.args.outside.now).texts (g.E.Outside.counts c.read_file.new.outside).texts (g.I.Source.count c.args.input.now) (g.I.Source.count c.read_input.new.input) _ c.in_ok-text.ensures.whole c.in_ok-text.ensures.fits _ c.in_err-script.ensures.unread)

pub returns-in_err-publication-clause-ends : goal.returns-in_err-publication-clause-ends
returns-in_err-publication-clause-ends g c =
    let p = err_from_is_err_and c.from_residual-in_err-publication.result c.from_residual-in_err-publication.ensures.1 in
    rw (p.1, p.2) (by-text ((g.E.CommandOutside.offers c.args.outside.now).texts c.args.place.now.publication) (g.I.Source.left c.args.input.now) c.args.resolvers c.args.place.now.site (g.E.Outside.counts c.args.outside.now).texts (g.E.Outside.counts c.read_file.new.outside).texts (g.I.Source.count c.args.input.now) (g.I.Source.count c.read_input.new.input) _ c.in_ok-text.ensures.whole c.in_ok-text.ensures.fits _ c.as_slice.ensures _ c.in_ok-script.ensures.whole c.in_ok-script.ensures.fits _ c.in_err-publication.ensures.refused)

pub returns-in_err-check_site-clause-ends : goal.returns-in_err-check_site-clause-ends
returns-in_err-check_site-clause-ends g c =
    let p = err_from_is_err_and c.from_residual-in_err-check_site.result c.from_residual-in_err-check_site.ensures.1 in
    rw (p.1, p.2) (by-site ((g.E.CommandOutside.offers c.args.outside.now).texts c.args.place.now.publication) (g.I.Source.left c.args.input.now) c.args.resolvers c.args.place.now.site (g.E.Outside.counts c.args.outside.now).texts (g.E.Outside.counts c.read_file.new.outside).texts (g.I.Source.count c.args.input.now) (g.I.Source.count c.read_input.new.input) _ c.in_ok-text.ensures.whole c.in_ok-text.ensures.fits _ c.as_slice.ensures _ c.in_ok-script.ensures.whole c.in_ok-script.ensures.fits _ _ c.in_ok-publication.ensures.answer c.in_err-check_site.ensures.err)

pub returns-clause-counted : goal.returns-clause-counted
returns-clause-counted g c = λ other. c.in_ok-script.ensures.kept

pub returns-in_err-text-clause-counted : goal.returns-in_err-text-clause-counted
returns-in_err-text-clause-counted g c = λ other. refl

pub returns-in_err-script-clause-counted : goal.returns-in_err-script-clause-counted
returns-in_err-script-clause-counted g c =
    let p = err_from_is_err_and c.from_residual-in_err-script.result c.from_residual-in_err-script.ensures.1 in
    rw (p.1, p.2) (counted-through _ _ _ _ refl refl c.in_err-script.ensures.counted)

pub returns-in_err-publication-clause-counted : goal.returns-in_err-publication-clause-counted
returns-in_err-publication-clause-counted g c = λ other. c.in_ok-script.ensures.kept

pub returns-in_err-check_site-clause-counted : goal.returns-in_err-check_site-clause-counted
returns-in_err-check_site-clause-counted g c = λ other. c.in_ok-script.ensures.kept
