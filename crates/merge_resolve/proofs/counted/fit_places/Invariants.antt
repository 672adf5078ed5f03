use Rattle.std.proofs.Common.{◌≡◌, drop}
use Rattle.merge_resolve.specs.Counted.{fits_place, fit_all}
use Rattle.merge_resolve.proofs.counted.fit_places.Given as goal

-- all fit just when those that are left do
abbrev pub invariant-loop-at : goal.invariant-loop-at
invariant-loop-at l = fit_all (fits_place l.types) (drop l.at l.cells) (drop l.at l.values) ≡ fit_all (fits_place l.types) l.cells l.values
