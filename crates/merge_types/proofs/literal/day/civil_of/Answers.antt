-- The library's date is the one that is computed of the day.
use Rattle.std.proofs.Common.{◌≡◌, ◌<◌, ◌∙◌, ap, arith, to_z, of_z, w64, w32, w16, ℤ, pos, FitsSigned, refl, ℕ}
use Rattle.std.proofs.lemmas.Int.{to_z-of_z}
use Rattle.jiff_core.proofs.SignedLemmas.{signed_arith}
use Rattle.merge_types.specs.Day.{year_of}
use Rattle.merge_types.proofs.Days.{date_is, date_of_library, date_within}
use Rattle.merge_types.proofs.literal.day.civil_of.Goals as goal

-- the day as the call sees it
wide : (z : ℤ) → FitsSigned w32 z → to_z w64 (of_z w64 (to_z w32 (of_z w32 z))) ≡ z
wide z fits =
    let fits_wide : FitsSigned w64 z = omega (arith, signed_arith) in
    ap (λ (x : ℤ). to_z w64 (of_z w64 x)) (to_z-of_z w32 z fits) ∙ to_z-of_z w64 z fits_wide

short : (z : ℤ) (y : ℕ) → z ≡ pos y → y < 10000 → to_z w16 (of_z w16 z) ≡ pos y
short z y e lt =
    let fits : FitsSigned w16 z = rw e (omega (arith, signed_arith)) in
    to_z-of_z w16 z fits ∙ e

pub overflow_cast-result : goal.overflow_cast-result
overflow_cast-result c =
    let same = date_of_library c.args.day c.in-Ok.date c.requires (c.in-Ok.ensures.value ∙ wide c.args.day c.ranges.day) in
    let within = date_within _ _ _ c.args.day (date_is c.args.day c.requires) in
    rw (short c.in-Ok.date.year (year_of c.args.day) same.0 within.0) (tt, omega (arith, within.0))

pub returns : goal.returns
returns c =
    let same = date_of_library c.args.day c.in-Ok.date c.requires (c.in-Ok.ensures.value ∙ wide c.args.day c.ranges.day) in
    let within = date_within _ _ _ c.args.day (date_is c.args.day c.requires) in
    let year = short c.in-Ok.date.year (year_of c.args.day) same.0 within.0 in
    record {
      date = rw (year, same.1, same.2) (refl, refl, refl);
      within = rw (year, same.1, same.2) within;
    }
