-- Loops over two lists side by side.
use Rattle.std.proofs.Common.{◌≡◌, ℕ, ◌+◌, ◌<◌, Bool, List, [], ◌∷◌, ◌++◌, length, get_or, take, map, max, ap, refl, arith}
use Rattle.std.specs.List.{list_any, zip}
use Rattle.std.proofs.lemmas.Slice.Zip.{get_or-zip, length-zip}
use Rattle.std.proofs.lemmas.Grind.{common_steps}
use Rattle.merge_units.specs.Length.{cell_weight}
use Rattle.merge_units.specs.declared.version.Cell.{Cell}
use Rattle.merge_units.specs.Cases.{united_weight}

module _ {A B : Type 0} (xs : List A) (ys : List B) (k : ℕ) (x : A) (y : B) (in_xs : k < length xs) (in_ys : k < length ys) (at_x : x ≡ get_or xs k x) (at_y : y ≡ get_or ys k y) where
  -- one more pair
  pub take-zip_next : take (k + 1) (zip xs ys) ≡ take k (zip xs ys) ++ (x, y) ∷ []
  take-zip_next = grind (arith, common_steps, get_or-zip xs ys k (x, y) in_xs in_ys, length-zip xs ys)

  -- what a function gives at it
  pub map-zip_next : {C : Type 0} (f : A × B → C) → map f (take (k + 1) (zip xs ys)) ≡ map f (take k (zip xs ys)) ++ f (x, y) ∷ []
  map-zip_next f = grind (arith, common_steps, ap (map f) take-zip_next)

-- what one more pair counts
pub united_weight_next : (ps is : List Cell) (k : ℕ) (p i : Cell) → k < length ps → k < length is → p ≡ get_or ps k p → i ≡ get_or is k i
    → united_weight (take (k + 1) (zip ps is)) ≡ united_weight (take k (zip ps is)) + max (cell_weight p) (cell_weight i)
united_weight_next ps is k p i in_ps in_is at_p at_i = grind (arith, common_steps, ap united_weight (take-zip_next ps is k p i in_ps in_is at_p at_i))

-- a test of what a function gives
pub any_map : {A B : Type 0} (test : B → Bool) (f : A → B) (xs : List A) → list_any test (map f xs) ≡ list_any (λ x. test (f x)) xs
any_map test f [] = refl
any_map test f (x ∷ xs) = rw (any_map test f xs) refl
