-- The file was read and has a publication, or not.
use Rattle.std.proofs.lemmas.Result.{err_from_is_err_and}
use Rattle.merge_program.proofs.Serves.{by-file, by-text, is-ordered}
use Rattle.merge_program.proofs.serve.read_ordered.Goals as goal

pub returns-clause-read : goal.returns-clause-read
returns-clause-read g c = is-ordered _ _ 0 0 _ c.in_ok-text.ensures.whole c.in_ok-text.ensures.fits _ c.as_slice.ensures _ c.in_ok-publication.ensures.answer

pub returns-in_err-text-clause-ends : goal.returns-in_err-text-clause-ends
returns-in_err-text-clause-ends g c =
    let p = err_from_is_err_and c.from_residual.result c.from_residual.ensures.1 in
    rw (p.1, p.2) (by-file ((g.E.CommandOutside.offers c.args.outside.now).texts c.args.path.now) c.args.resolvers (g.E.Outside.counts c.args.outside.now).texts (g.E.Outside.counts c.read_file.new.outside).texts _ c.in_err-text.ensures.unread)

pub returns-in_err-publication-clause-ends : goal.returns-in_err-publication-clause-ends
returns-in_err-publication-clause-ends g c =
    let p = err_from_is_err_and c.from_residual-in_err-publication.result c.from_residual-in_err-publication.ensures.1 in
    rw (p.1, p.2) (by-text ((g.E.CommandOutside.offers c.args.outside.now).texts c.args.path.now) c.args.resolvers (g.E.Outside.counts c.args.outside.now).texts (g.E.Outside.counts c.read_file.new.outside).texts _ c.in_ok-text.ensures.whole c.in_ok-text.ensures.fits _ c.as_slice.ensures _ c.in_err-publication.ensures.refused)
