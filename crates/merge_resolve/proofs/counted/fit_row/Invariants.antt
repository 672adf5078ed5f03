use Rattle.std.proofs.Common.{◌≡◌, drop}
use Rattle.merge_types.specs.Fitting.{fits_column}
use Rattle.merge_resolve.specs.Counted.{fit_all}
use Rattle.merge_resolve.proofs.counted.fit_row.Given as goal

-- all fit just when those that are left do
abbrev pub invariant-loop-at : goal.invariant-loop-at
invariant-loop-at l = fit_all fits_column (drop l.at l.types) (drop l.at l.values) ≡ fit_all fits_column l.types l.values
