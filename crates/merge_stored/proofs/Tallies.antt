-- How many members of a list pass a test, and where in the list they stand.
use Rattle.std.specs.List.{AllByRecursion, Contains, count_by, list_all, list_any}
use Rattle.std.specs.Prelude.{Bool, List, [], cond, false, map, not, refl, true, ℕ, ◌++◌, ◌+◌, ◌≡◌, ◌≤◌, ◌∷◌, ◌||◌}
use Rattle.std.proofs.Common.{ap, arith, ◌∙◌}
use Rattle.std.proofs.lemmas.List.{append_assoc}
use Rattle.std.proofs.lemmas.List.Elements.{All-contains, All-from_recursion}
use Rattle.std.proofs.lemmas.List.Sums.{sum_by-cons}
use Rattle.merge_keeper.specs.Start.{KeepOneByOne}
use Rattle.merge_model.proofs.Lists.Finding.{all-weaker}

abbrev pub counted : Bool → ℕ
counted b = cond b 1 0

abbrev pub tally : {X : Type 0} → (X → Bool) → List X → ℕ
tally p [] = 0
tally p (x ∷ xs) = counted (p x) + tally p xs

pub count-tally : {X : Type 0} (p : X → Bool) (xs : List X) → count_by p xs ≡ tally p xs
count-tally p [] = refl
count-tally p (x ∷ xs) = sum_by-cons (λ y. counted (p y)) x xs ∙ ap (λ (n : ℕ). counted (p x) + n) (count-tally p xs)

pub tally-append : {X : Type 0} (p : X → Bool) (xs ys : List X) → tally p (xs ++ ys) ≡ tally p xs + tally p ys
tally-append p [] ys = omega arith
tally-append p (x ∷ xs) ys = (let rest = tally-append p xs ys in omega (arith, rest))

pub tally-split : {X : Type 0} (p q r : X → Bool) → ((x : X) → counted (p x) ≡ counted (q x) + counted (r x)) → (xs : List X) → tally p xs ≡ tally q xs + tally r xs
tally-split p q r each [] = omega arith
tally-split p q r each (x ∷ xs) = (let here = each x in let rest = tally-split p q r each xs in omega (arith, here, rest))

pub tally-same : {X : Type 0} (p q : X → Bool) (xs : List X) → AllByRecursion (λ x. p x ≡ q x) xs → tally p xs ≡ tally q xs
tally-same p q [] all = refl
tally-same p q (x ∷ xs) all = (let here : counted (p x) ≡ counted (q x) = ap counted all.0 in let rest = tally-same p q xs all.1 in omega (arith, here, rest))

pub tally-none : {X : Type 0} (p : X → Bool) (xs : List X) → AllByRecursion (λ x. p x ≡ false) xs → tally p xs ≡ 0
tally-none p [] all = refl
tally-none p (x ∷ xs) all = (let here : counted (p x) ≡ 0 = ap counted all.0 in let rest = tally-none p xs all.1 in omega (arith, here, rest))

pub tally-map : {X Y : Type 0} (p : Y → Bool) (f : X → Y) (xs : List X) → tally p (map f xs) ≡ tally (λ x. p (f x)) xs
tally-map p f [] = refl
tally-map p f (x ∷ xs) = ap (λ (n : ℕ). counted (p (f x)) + n) (tally-map p f xs)

none-by : (b : Bool) (n : ℕ) → counted (not b) + n ≡ 0 → (b ≡ true) × (n ≡ 0)
none-by true n none = (refl, omega (arith, none))
none-by false n none = absurd (omega (arith, none))

pub none-tallied : {X : Type 0} (p : X → Bool) (xs : List X) → tally (λ x. not (p x)) xs ≡ 0 → list_all p xs ≡ true
none-tallied p [] none = refl
none-tallied p (x ∷ xs) none = (let both = none-by (p x) (tally (λ y. not (p y)) xs) none in let here = both.0 in let rest = none-tallied p xs both.1 in grind (arith, here, rest))

tallied : {X : Type 0} (p : X → Bool) (xs : List X) → AllByRecursion (λ x. p x ≡ true → 1 ≤ tally p xs) xs
tallied p [] = tt
tallied {X} p (x ∷ xs) = (
  (λ is. (let here : counted (p x) ≡ 1 = ap counted is in omega (arith, here))),
  all-weaker (λ (y : X). p y ≡ true → 1 ≤ tally p xs) (λ (y : X). p y ≡ true → 1 ≤ tally p (x ∷ xs)) (λ y some is. (let rest = some is in omega (arith, rest))) xs (tallied p xs),
)

pub tally-some : {X : Type 0} (p : X → Bool) (xs : List X) (x : X) → Contains xs x → p x ≡ true → 1 ≤ tally p xs
tally-some {X} p xs x is passes = All-contains (λ (y : X). p y ≡ true → 1 ≤ tally p xs) xs x (All-from_recursion (λ (y : X). p y ≡ true → 1 ≤ tally p xs) xs (tallied p xs)) is passes

-- Where one that passes stands.

pub first-all : {X : Type 0} (P : X → Type 0) (xs ys : List X) → AllByRecursion P (xs ++ ys) → AllByRecursion P xs
first-all P [] ys all = tt
first-all P (x ∷ xs) ys all = (all.0, first-all P xs ys all.1)

pub second-all : {X : Type 0} (P : X → Type 0) (xs ys : List X) → AllByRecursion P (xs ++ ys) → AllByRecursion P ys
second-all P [] ys all = all
second-all P (x ∷ xs) ys all = second-all P xs ys all.1

pub keep-all : {X : Type 0} (Q : List X → X → Type 0) (all front xs : List X) → front ++ xs ≡ all → ((f : List X) (x : X) (rest : List X) → f ++ x ∷ rest ≡ all → Q f x) → KeepOneByOne Q front xs
keep-all Q all front [] is each = tt
keep-all Q all front (x ∷ xs) is each = (each front x xs is, keep-all Q all (front ++ x ∷ []) xs (append_assoc front (x ∷ []) xs ∙ is) each)

pub any-mapped : {X Y : Type 0} (test : X → Bool) (more : Y → Bool) (f : X → Y) → ((x : X) → test x ≡ true → more (f x) ≡ true) → (xs : List X) → list_any test xs ≡ true → list_any more (map f xs) ≡ true
any-mapped test more f leads [] some = absurd cc
any-mapped test more f leads (x ∷ xs) some = any-by (test x) (more (f x)) (list_any test xs) (list_any more (map f xs)) (leads x) (any-mapped test more f leads xs) some
  where
    any-by : (a b c d : Bool) → (a ≡ true → b ≡ true) → (c ≡ true → d ≡ true) → (a || c) ≡ true → (b || d) ≡ true
    any-by true b c d here more some = (let is = here refl in grind (arith, is))
    any-by false b c d here more some = (let is = more some in grind (arith, is))

none-split : (b : Bool) (n : ℕ) → counted b + n ≡ 0 → (b ≡ false) × (n ≡ 0)
none-split true n none = absurd (omega (arith, none))
none-split false n none = (refl, omega (arith, none))

pub none-pass : {X : Type 0} (p : X → Bool) (xs : List X) → tally p xs ≡ 0 → AllByRecursion (λ x. p x ≡ false) xs
none-pass p [] none = tt
none-pass p (x ∷ xs) none = (let both = none-split (p x) (tally p xs) none in (both.0, none-pass p xs both.1))
