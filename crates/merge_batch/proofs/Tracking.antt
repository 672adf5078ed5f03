-- The test of tracking says what tracking asks.
use Rattle.std.proofs.Common.{◌≡◌, zero, suc, Bool, true, false, IsTrue, ◌↔◌, List, [], ◌∷◌, length, All, refl, sym, arith}
use Rattle.std.specs.List.{list_all}
use Rattle.std.proofs.lemmas.Bool.Decides.{nat_tests}
use Rattle.merge_types.specs.declared.Tracking.{Tracking}
use Rattle.merge_types.specs.declared.Tracking.TheVariants as tracking
use Rattle.merge_units.specs.declared.version.Cell.{Cell}
use Rattle.merge_units.specs.Version.{FitsTracking}
use Rattle.merge_batch.specs.Articles.{has_one_value, cells_fit_tracking}

one_value-all : (cells : List Cell) → All (λ (cell : Cell). length cell.values ≡ 1) cells → list_all has_one_value cells ≡ true
one_value-all [] one = refl
one_value-all (cell ∷ cells) one = grind (arith, nat_tests, one 0 cell, one_value-all cells (λ i d lt. one (suc i) d (omega arith)))

all-one_value : (cells : List Cell) → list_all has_one_value cells ≡ true → All (λ (cell : Cell). length cell.values ≡ 1) cells
all-one_value [] one i d lt = absurd (omega arith)
all-one_value (cell ∷ cells) one zero d lt = grind (arith, nat_tests, one)
all-one_value (cell ∷ cells) one (suc i) d lt = all-one_value cells (grind (arith, nat_tests, one)) i d (omega arith)

-- a test that does not hold fails
fails : (b : Bool) → (b ≡ true → ⊥) → false ≡ b
fails true never = absurd (never refl)
fails false never = refl

-- cells with this tracking pass the test
pub test-fits : (t : Tracking) (cells : List Cell) → FitsTracking t cells → cells_fit_tracking t cells ≡ true
test-fits tracking.Row cells fits = grind (arith, nat_tests, fits)
test-fits tracking.ByColumn cells fits = one_value-all cells fits

-- and only these
pub fits-test : (t : Tracking) (cells : List Cell) → cells_fit_tracking t cells ≡ true → FitsTracking t cells
fits-test tracking.Row cells passes = grind (arith, nat_tests, passes)
fits-test tracking.ByColumn cells passes = all-one_value cells passes

pub same_test : (t : Tracking) (cells : List Cell) (b : Bool) → (IsTrue b ↔ FitsTracking t cells) → b ≡ cells_fit_tracking t cells
same_test t cells true both = sym (test-fits t cells (both.0 refl))
same_test t cells false both = fails (cells_fit_tracking t cells) (λ passes. absurd (cc (both.1 (fits-test t cells passes))))
