use Rattle.std.proofs.Common.{sym}
use Rattle.merge_batch.proofs.Values.{values_fit-uneven}
use Rattle.merge_batch.proofs.article.each_fits.Goals as goal

pub returns-then-columns-values : goal.returns-then-columns-values
returns-then-columns-values c = sym (values_fit-uneven c.args.columns.now c.args.values.now c.if-columns-values.true)
