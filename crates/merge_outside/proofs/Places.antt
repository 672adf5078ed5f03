-- The first place that passes a test, as a list grows.
use Rattle.std.proofs.Common.{◌≡◌, ℕ, suc, ◌+◌, ◌<◌, Bool, true, false, not, cond, List, [], ◌∷◌, ◌++◌, length, nat_lt, refl, arith}
use Rattle.std.specs.Prelude.{position}
use Rattle.std.specs.List.{position_or_len}
use Rattle.std.specs.declared.option.Option.{Option}
use Rattle.std.specs.declared.option.Option.TheVariants.{None, Some}
use Rattle.std.proofs.lemmas.Bool.Decides.{nat_tests}

by_test : (a n i : ℕ) (b : Bool) → nat_lt a n ≡ b → cond b (Some a) None ≡ Some i → (a < n) × (i ≡ a)
by_test a n i b = grind (arith, nat_tests)

-- a place that was found is the first, and lies within the list
pub found-at : {X : Type 0} (p : X → Bool) (xs : List X) (i : ℕ) → position p xs ≡ Some i → (position_or_len p xs < length xs) × (i ≡ position_or_len p xs)
found-at p xs i found = by_test (position_or_len p xs) (length xs) i (nat_lt (position_or_len p xs) (length xs)) refl found

first : (b : Bool) (n : ℕ) → b ≡ true → cond (not b) 1 0 < suc n
first b n = grind (arith)

next : (b : Bool) (a n : ℕ) → a < n → cond (not b) (1 + a) 0 < suc n
next b a n = grind (arith)

-- one that passes is found behind the others at the latest
pub place-new : {X : Type 0} (p : X → Bool) (xs : List X) (y : X) → p y ≡ true → position_or_len p (xs ++ y ∷ []) < length (xs ++ y ∷ [])
place-new p [] y passes = first (p y) 0 passes
place-new p (x ∷ xs) y passes = next (p x) (position_or_len p (xs ++ y ∷ [])) (length (xs ++ y ∷ [])) (place-new p xs y passes)

still : (b : Bool) (a n a' n' : ℕ) → (a < n → a' < n') → cond (not b) (1 + a) 0 < suc n → cond (not b) (1 + a') 0 < suc n'
still true a n a' n' later within = omega arith
still false a n a' n' later within = let h = later (omega arith) in omega arith

-- and what is found stays found
pub place-kept : {X : Type 0} (p : X → Bool) (xs : List X) (y : X) → position_or_len p xs < length xs → position_or_len p (xs ++ y ∷ []) < length (xs ++ y ∷ [])
place-kept p [] y within = absurd (omega arith)
place-kept p (x ∷ xs) y within =
    still (p x) (position_or_len p xs) (length xs) (position_or_len p (xs ++ y ∷ [])) (length (xs ++ y ∷ [])) (place-kept p xs y) within
