-- What holds of the second parts of a list of pairs, as one is put, found or dropped; and of lists that are taken, dropped, numbered and zipped.
use Rattle.std.specs.BTreeMap.{insert_entry}
use Rattle.std.specs.List.{AllByRecursion, enumerate_from, zip}
use Rattle.std.specs.Map.{lookup, remove_entry}
use Rattle.std.specs.Prelude.{Bool, List, None, Option, Some, [], cond, drop, false, find, refl, slice_get, slice_set, suc, take, true, unwrap_or, zero, ℕ, ◌+◌, ◌≡◌, ◌∷◌}
use Rattle.std.specs.declared.cmp.Ordering.{Ordering}
use Rattle.merge_model.proofs.Entries.EntryLists.{all-put}
use Rattle.merge_model.proofs.Lists.{OfSome}

found-step : {X : Type 0} (P : X → Type 0) (b : Bool) (x : X) (rest : Option X) → P x → OfSome P rest → OfSome P (cond b (Some x) rest)
found-step P true x rest first more = first
found-step P false x rest first more = more

module _ {K V : Type 0} (P : V → Type 0) where
  abbrev pub AllValues : List (K × V) → Type 0
  AllValues rows = AllByRecursion (λ (row : K × V). P row.1) rows

  pub values-put : (cmp : K → K → Ordering) (k : K) (v : V) (rows : List (K × V)) → P v → AllValues rows → AllValues (insert_entry cmp rows k v)
  values-put cmp k v rows new all = all-put (λ (row : K × V). P row.1) cmp k v (λ q same. new) new rows all

  pub values-found : (test : K → Bool) (rows : List (K × V)) → AllValues rows → OfSome P (lookup test rows)
  values-found test [] all = tt
  values-found test (row ∷ rows) all = found-step P (test row.0) row.1 (lookup test rows) all.0 (values-found test rows all.1)

  drop-step : (b : Bool) (row : K × V) (rest more : List (K × V)) → P row.1 → AllValues rest → AllValues more → AllValues (cond b rest (row ∷ more))
  drop-step true row rest more first others all = others
  drop-step false row rest more first others all = (first, all)

  pub values-dropped : (test : K → Bool) (rows : List (K × V)) → AllValues rows → AllValues (remove_entry test rows)
  values-dropped test [] all = tt
  values-dropped test (row ∷ rows) all = drop-step (test row.0) row rows (remove_entry test rows) all.0 all.1 (values-dropped test rows all.1)

module _ {X : Type 0} (P : X → Type 0) where
  -- what is found, and what stands in a place
  pub all-find : (test : X → Bool) (xs : List X) → AllByRecursion P xs → OfSome P (find test xs)
  all-find test [] all = tt
  all-find test (x ∷ xs) all = found-step P (test x) x (find test xs) all.0 (all-find test xs all.1)

  pub all-get : (xs : List X) (place : ℕ) → AllByRecursion P xs → OfSome P (slice_get xs place)
  all-get [] place all = tt
  all-get (x ∷ xs) zero all = all.0
  all-get (x ∷ xs) (suc place) all = all-get xs place all.1

  pub all-set : (xs : List X) (place : ℕ) (new : X) → P new → AllByRecursion P xs → AllByRecursion P (slice_set xs place new)
  all-set [] place new is all = tt
  all-set (x ∷ xs) zero new is all = (is, all.1)
  all-set (x ∷ xs) (suc place) new is all = (all.0, all-set xs place new is all.1)

  pub all-taken : (count : ℕ) (xs : List X) → AllByRecursion P xs → AllByRecursion P (take count xs)
  all-taken zero xs all = tt
  all-taken (suc count) [] all = tt
  all-taken (suc count) (x ∷ xs) all = (all.0, all-taken count xs all.1)

  pub all-left : (count : ℕ) (xs : List X) → AllByRecursion P xs → AllByRecursion P (drop count xs)
  all-left zero xs all = all
  all-left (suc count) [] all = tt
  all-left (suc count) (x ∷ xs) all = all-left count xs all.1

  pub all-numbered : (from : ℕ) (xs : List X) → AllByRecursion P xs → AllByRecursion (λ (p : ℕ × X). P p.1) (enumerate_from from xs)
  all-numbered from [] all = tt
  all-numbered from (x ∷ xs) all = (all.0, all-numbered (from + 1) xs all.1)

  pub all-zipped : {Y : Type 0} (xs : List X) (ys : List Y) → AllByRecursion P xs → AllByRecursion (λ (p : X × Y). P p.0) (zip xs ys)
  all-zipped [] ys all = tt
  all-zipped (x ∷ xs) [] all = tt
  all-zipped (x ∷ xs) (y ∷ ys) all = (all.0, all-zipped xs ys all.1)

  pub or-else : (found : Option X) (other : X) → OfSome P found → P other → P (unwrap_or found other)
  or-else None other is more = more
  or-else (Some x) other is more = is

-- what is not found
find-none-step : {X : Type 0} (b : Bool) (x : X) (rest : Option X) → cond b (Some x) rest ≡ None → (b ≡ false) × (rest ≡ None)
find-none-step true x rest is = absurd cc
find-none-step false x rest is = (refl, is)

pub none-found : {X : Type 0} (test : X → Bool) (xs : List X) → find test xs ≡ None → AllByRecursion (λ (x : X). test x ≡ false) xs
none-found test [] is = tt
none-found test (x ∷ xs) is = (let both = find-none-step (test x) x (find test xs) is in (both.0, none-found test xs both.1))
