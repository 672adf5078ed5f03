-- What a search says of the members of a list.
use Rattle.std.proofs.Common.{◌≡◌, ℕ, suc, ◌+◌, ◌<◌, Bool, true, false, cond, not, ◌||◌, is_some, inl, inr, List, [], ◌∷◌, length, map, get_or, Some, None, unwrap_or, All, find, slice_get, Result, Ok, Err, refl, sym, ap, subst, ◌∙◌, arith}
use Rattle.std.specs.List.{Contains, list_any, position, position_from}
use Rattle.std.proofs.lemmas.Bool.{false≢true}
use Rattle.std.proofs.lemmas.Iterator.Adapters.{position_from-zero}
use Rattle.std.proofs.lemmas.List.{get_or_default}
use Rattle.merge_schema.specs.declared.fault.SchemaFault.{SchemaFault}
use Rattle.merge_schema.specs.Steps.{◌>>=◌, every, refused_if}
use Rattle.merge_schema.proofs.ListMembers.{any_at, contains_cases, contains_none}

not_err : {A : Type 0} (fault : SchemaFault) (x : A) → ◌≡◌ {A = Result A SchemaFault} (Err fault) (Ok x) → ⊥
not_err fault x h = cc

-- two steps that both pass
pub both : (first second : Result (Unit {0}) SchemaFault) → (first >>= λ _. second) ≡ Ok tt → (first ≡ Ok tt) × (second ≡ Ok tt)
both (Ok u) second h = (refl, h)
both (Err fault) second h = absurd (not_err fault tt h)

pub not_refused : (b : Bool) (fault : SchemaFault) → refused_if b fault ≡ Ok tt → b ≡ false
not_refused true fault h = absurd (not_err fault tt h)
not_refused false fault h = refl

pub not_false : (b : Bool) → not b ≡ false → b ≡ true
not_false true h = refl
not_false false h = sym h

module _ {X : Type 0} where
  -- a step that passes for a list passes for each member
  pub every_at : (step : X → Result (Unit {0}) SchemaFault) (xs : List X) → every step xs ≡ Ok tt → (x : X) → Contains xs x → step x ≡ Ok tt
  every_at step [] h x there = absurd (contains_none x there)
  every_at step (y ∷ ys) h x there =
      let parts = both (step y) (every step ys) h in
      elim (contains_cases y ys x there) [
        | inl same ↦ subst (λ (z : X). step z ≡ Ok tt) same parts.0
        | inr more ↦ every_at step ys parts.1 x more
      ]

  -- a test that passes at none
  pub none_at : (test : X → Bool) (xs : List X) → list_any test xs ≡ false → (x : X) → Contains xs x → test x ≡ false
  none_at test xs h x there = by (test x) refl
    where
      by : (b : Bool) → test x ≡ b → test x ≡ false
      by true e = absurd (false≢true (sym h ∙ any_at test xs x there e))
      by false e = e

  some_not : (x : X) → Some x ≡ None → ⊥
  some_not x h = cc

  pub none_found : (test : X → Bool) (xs : List X) → find test xs ≡ None → list_any test xs ≡ false
  none_found test [] h = refl
  none_found test (x ∷ xs) h = by (test x) h (none_found test xs)
    where
      by : (b : Bool) → cond b (Some x) (find test xs) ≡ None → (find test xs ≡ None → list_any test xs ≡ false) → (b || list_any test xs) ≡ false
      by true e others = absurd (some_not x e)
      by false e others = others e

  -- where a test passes, the first place where it does has what the search finds
  abbrev PlaceIs : (X → Bool) → ℕ → List X → Type 0
  PlaceIs test i xs = (k : ℕ) × (position_from test i xs ≡ Some (i + k)) × (k < length xs) × (find test xs ≡ slice_get xs k)

  place_from : (test : X → Bool) (i : ℕ) (xs : List X) → list_any test xs ≡ true → PlaceIs test i xs
  place_from test i [] h = absurd (false≢true h)
  place_from test i (x ∷ xs) h = by (test x) h (place_from test (i + 1) xs)
    where
      by : (b : Bool) → (b || list_any test xs) ≡ true → (list_any test xs ≡ true → PlaceIs test (i + 1) xs)
          → (k : ℕ) × (cond b (Some i) (position_from test (i + 1) xs) ≡ Some (i + k)) × (k < suc (length xs)) × (cond b (Some x) (find test xs) ≡ slice_get (x ∷ xs) k)
      by true e others = (0, ap Some (omega arith), omega arith, refl)
      by false e others = let (k, at, less, same) = others e in (suc k, at ∙ ap Some (omega arith), omega arith, same)

  some_there : (test : X → Bool) (i : ℕ) (xs : List X) → is_some (position_from test i xs) ≡ true → list_any test xs ≡ true
  some_there test i [] h = h
  some_there test i (x ∷ xs) h = by (test x) h (some_there test (i + 1) xs)
    where
      by : (b : Bool) → is_some (cond b (Some i) (position_from test (i + 1) xs)) ≡ true → (is_some (position_from test (i + 1) xs) ≡ true → list_any test xs ≡ true) → (b || list_any test xs) ≡ true
      by true e others = refl
      by false e others = others e

  -- a place where a test passes
  pub place_of_any : (test : X → Bool) (xs : List X) → list_any test xs ≡ true
      → (unwrap_or (position test xs) 0 < length xs) × (find test xs ≡ slice_get xs (unwrap_or (position test xs) 0))
  place_of_any test xs h =
      let (k, at, less, same) = place_from test 0 xs h in
      let e : k ≡ unwrap_or (position test xs) 0 = sym (ap (λ o. unwrap_or o 0) (position_from-zero test xs ∙ at) ∙ omega arith) in
      (subst (λ (n : ℕ). n < length xs) e less, subst (λ (n : ℕ). find test xs ≡ slice_get xs n) e same)

  pub place_of_some : (test : X → Bool) (xs : List X) → is_some (position test xs) ≡ true
      → (unwrap_or (position test xs) 0 < length xs) × (find test xs ≡ slice_get xs (unwrap_or (position test xs) 0))
  place_of_some test xs h =
      place_of_any test xs (some_there test 0 xs (ap is_some (sym (position_from-zero test xs)) ∙ h))

  -- what holds of each member
  pub all_members : (P : X → Type 0) (xs : List X) → ((x : X) → Contains xs x → P x) → All P xs
  all_members P xs each k d less = each (get_or xs k d) (k, less, get_or_default xs k (get_or xs k d) d less)

pub any_map : {A B : Type 0} (f : A → B) (test : B → Bool) (xs : List A) → list_any test (map f xs) ≡ list_any (λ x. test (f x)) xs
any_map f test [] = refl
any_map f test (x ∷ xs) = ap (λ b. test (f x) || b) (any_map f test xs)
