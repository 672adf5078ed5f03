use Rattle.merge_batch.proofs.Tracking.{same_test}
use Rattle.merge_batch.proofs.article.cells_fit_tracking.Goals as goal

pub returns : goal.returns
returns c = same_test c.args.tracking c.args.cells.now c.fits_tracking.result c.fits_tracking.ensures
