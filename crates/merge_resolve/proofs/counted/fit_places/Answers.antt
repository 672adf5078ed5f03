use Rattle.std.proofs.Common.{sym}
use Rattle.merge_resolve.specs.Counted.{fits_place}
use Rattle.merge_resolve.proofs.FitLists.{fit_all-uneven}
use Rattle.merge_resolve.proofs.counted.fit_places.Goals as goal

pub returns-then-cells-values-clause-fit : goal.returns-then-cells-values-clause-fit
returns-then-cells-values-clause-fit c = sym (fit_all-uneven (fits_place c.args.types.now) c.args.cells.now c.args.values.now c.if-cells-values.true)
