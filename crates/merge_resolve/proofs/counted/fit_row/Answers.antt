use Rattle.std.proofs.Common.{sym}
use Rattle.merge_types.specs.Fitting.{fits_column}
use Rattle.merge_resolve.proofs.FitLists.{fit_all-uneven}
use Rattle.merge_resolve.proofs.counted.fit_row.Goals as goal

pub returns-then-types-values : goal.returns-then-types-values
returns-then-types-values c = sym (fit_all-uneven fits_column c.args.types.now c.args.values.now c.if-types-values.true)
