-- What tests say: of one or another, and of numbers.
use Rattle.std.specs.Prelude.{◌≡◌, ◌==◌, ◌||◌, ℕ, Bool, true, false, refl, if◌then◌else◌}
use Rattle.std.proofs.Common.{arith}
use Rattle.std.proofs.lemmas.Bool.Decides.{nat_tests}

-- one or another
pub or-first : (a b : Bool) → a ≡ true → (a || b) ≡ true
or-first true b is = refl
or-first false b is = absurd cc

pub or-second : (a b : Bool) → b ≡ true → (a || b) ≡ true
or-second true b is = refl
or-second false b is = is

pub or-onward : (a b c : Bool) → (b ≡ true → c ≡ true) → (a || b) ≡ true → (a || c) ≡ true
or-onward true b c onward is = refl
or-onward false b c onward is = onward is

pub either : (P : Type 0) (one other : Bool) → (one || other) ≡ true → (one ≡ true → P) → (other ≡ true → P) → P
either P true other is first second = first refl
either P false other is first second = second is

-- what holds of either holds of what is chosen
pub if-either : {X : Type 0} (P : X → Type 0) (b : Bool) (x y : X) → (b ≡ true → P x) → (b ≡ false → P y) → P (if b then x else y)
if-either P true x y one other = one refl
if-either P false x y one other = other refl

pub if-both : {X : Type 0} (P : X → Type 0) (b : Bool) (x y : X) → P x → P y → P (if b then x else y)
if-both P b x y one other = if-either P b x y (λ is. one) (λ is. other)

pub if-true : {X : Type 0} (b : Bool) (x y : X) → b ≡ true → (if b then x else y) ≡ x
if-true true x y is = refl
if-true false x y is = absurd cc

pub if-false : {X : Type 0} (b : Bool) (x y : X) → b ≡ false → (if b then x else y) ≡ y
if-false true x y is = absurd cc
if-false false x y is = refl

-- numbers
pub number-itself : (n : ℕ) → (n == n) ≡ true
number-itself n = grind (arith, nat_tests)

pub numbers-same : (a b : ℕ) → (a == b) ≡ true → a ≡ b
numbers-same a b e = grind (arith, nat_tests, e)

pub numbers-turned : (a b : ℕ) → (a == b) ≡ (b == a)
numbers-turned a b = grind (arith, nat_tests)
