-- Elements of lists: what holds of all holds of each, and of the changes that were made.
use Rattle.std.specs.Prelude.{◌≡◌, ◌==◌, ◌⊎◌, ℕ, List, [], ◌∷◌, Bool, true, false, refl, cond, filter, if◌then◌else◌, map}
use Rattle.std.specs.List.{AllByRecursion, list_all, list_any}
use Rattle.std.proofs.Common.{arith, subst, sym, ap, ◌∙◌, inl, inr}
use Rattle.std.proofs.lemmas.Bool.Decides.{nat_tests}
use Rattle.merge_model.specs.History.{MadeChange}
use Rattle.merge_model.specs.Laws.Promises.{InCell, InRow, Place, places_of}
use Rattle.merge_laws.specs.Facts.Accounts.{is_made_at, makes}
use Rattle.merge_laws.proofs.Accounts.AccountChains.{at-later}
use Rattle.merge_model.proofs.Lists.KeyLookUps.{key-itself}
use Rattle.merge_model.proofs.Lists.{any-behind, any-first}
use Rattle.merge_laws.proofs.Pasts.DotTests.{dot-itself}

abbrev pub IsIn : {X : Type 0} → X → List X → Type 0
IsIn x [] = ⊥
IsIn x (y ∷ ys) = (y ≡ x) ⊎ IsIn x ys

pub all-in : {X : Type 0} (P : X → Type 0) (xs : List X) (x : X) → AllByRecursion P xs → IsIn x xs → P x
all-in P [] x all is = absurd is
all-in P (y ∷ ys) x all (inl same) = subst P same all.0
all-in P (y ∷ ys) x all (inr later) = all-in P ys x all.1 later

pub each-in : {X : Type 0} (P : X → Type 0) (xs : List X) → ((x : X) → IsIn x xs → P x) → AllByRecursion P xs
each-in P [] each = tt
each-in P (y ∷ ys) each = (each y (inl refl), each-in P ys (λ x is. each x (inr is)))

pub any-in : {X : Type 0} (keep test : X → Bool) (xs : List X) (x : X) → IsIn x xs → keep x ≡ true → test x ≡ true → list_any test (filter keep xs) ≡ true
any-in keep test [] x is keeps tests = absurd is
any-in keep test (y ∷ ys) x (inl same) keeps tests = any-first test (keep y) y (filter keep ys) (ap keep same ∙ keeps) (ap test same ∙ tests)
any-in keep test (y ∷ ys) x (inr later) keeps tests = any-behind test (keep y) y (filter keep ys) (any-in keep test ys x later keeps tests)

-- a change that was made made its places
made-first : (c : MadeChange) (made : List MadeChange) (place : Place) → makes c place ≡ true → is_made_at (c ∷ made) c.key c.dot place ≡ true
made-first c made place is = grind (arith, dot-itself c.dot, key-itself c.key, is)

pub made-in : (made : List MadeChange) (c : MadeChange) (place : Place) → IsIn c made → makes c place ≡ true → is_made_at made c.key c.dot place ≡ true
made-in [] c place is does = absurd is
made-in (x ∷ made) c place (inl same) does = subst (λ (y : MadeChange). is_made_at (y ∷ made) c.key c.dot place ≡ true) (sym same) (made-first c made place does)
made-in (x ∷ made) c place (inr later) does = at-later x made c.key c.dot place (made-in made c place later does)

-- what holds at each place that a change made holds at all its places
cells-all : (f : Place → Bool) (cells : List ℕ) → ((k : ℕ) → list_any (λ (cell : ℕ). cell == k) cells ≡ true → f (InCell k) ≡ true) → list_all f (map (λ (cell : ℕ). InCell cell) cells) ≡ true
cells-all f [] each = refl
cells-all f (cell ∷ cells) each =
    let first : f (InCell cell) ≡ true = each cell (grind (arith, nat_tests)) in
    let rest : list_all f (map (λ (x : ℕ). InCell x) cells) ≡ true = cells-all f cells (λ k is. each k (grind (arith, is))) in
    grind (arith, first, rest)

places-by : (f : Place → Bool) (c : MadeChange) (b : Bool) → c.deletes ≡ b → ((place : Place) → makes c place ≡ true → f place ≡ true)
    → list_all f (if b then InRow ∷ [] else map (λ (cell : ℕ). InCell cell) c.cells) ≡ true
places-by f c true is each = let row : f InRow ≡ true = each InRow is in grind (arith, row)
places-by f c false is each = cells-all f c.cells (λ k has. each (InCell k) (grind (arith, is, has)))

pub places-all : (f : Place → Bool) (c : MadeChange) → ((place : Place) → makes c place ≡ true → f place ≡ true) → list_all f (places_of c) ≡ true
places-all f c each = places-by f c c.deletes refl each

-- an element that passes a test, and elements that are kept
pub any-out : {X : Type 0} (C : Type 0) (test : X → Bool) (xs : List X) → list_any test xs ≡ true → ((x : X) → IsIn x xs → test x ≡ true → C) → C
any-out C test [] is each = absurd cc
any-out {X = X} C test (x ∷ xs) is each = by-head (test x) refl (λ rest. any-out C test xs rest (λ y inside passes. each y (inr inside) passes))
  where
    by-head : (b : Bool) → test x ≡ b → (list_any test xs ≡ true → C) → C
    by-head true e later = each x (inl refl) e
    by-head false e later = later (grind (arith, e, is))

keep-first : {X : Type 0} (b : Bool) (x : X) (xs : List X) → b ≡ true → IsIn x (cond b (x ∷ xs) xs)
keep-first true x xs e = inl refl
keep-first false x xs e = absurd cc

keep-rest : {X : Type 0} (b : Bool) (x y : X) (xs : List X) → IsIn x xs → IsIn x (cond b (y ∷ xs) xs)
keep-rest true x y xs is = inr is
keep-rest false x y xs is = is

pub filter-in : {X : Type 0} (keep : X → Bool) (xs : List X) (x : X) → IsIn x xs → keep x ≡ true → IsIn x (filter keep xs)
filter-in keep [] x is passes = absurd is
filter-in keep (y ∷ ys) x (inl same) passes = subst (λ (z : _). IsIn z (filter keep (y ∷ ys))) same (keep-first (keep y) y (filter keep ys) (ap keep same ∙ passes))
filter-in keep (y ∷ ys) x (inr later) passes = keep-rest (keep y) x y (filter keep ys) (filter-in keep ys x later passes)
