-- Members of lists.
use Rattle.std.proofs.Common.{◌≡◌, ℕ, ◌<◌, zero, suc, Bool, true, false, cond, ◌||◌, List, [], ◌∷◌, ◌⊎◌, inl, inr, refl, sym, ap, subst, ◌∙◌, arith}
use Rattle.std.specs.List.{Contains, filter, list_any, flat_map, range_with_len}
use Rattle.std.proofs.lemmas.List.Elements.{Contains-append_left, Contains-append_right, Contains-append_cases}
use Rattle.std.proofs.lemmas.List.Folds.{list_any_at}
use Rattle.std.proofs.lemmas.List.FromFn.{length-range_with_len, get_or-range_with_len}

module _ {X : Type 0} where
  pub contains_cases : (x : X) (xs : List X) (y : X) → Contains (x ∷ xs) y → (x ≡ y) ⊎ Contains xs y
  contains_cases x xs y (zero, less, at) = inl at
  contains_cases x xs y (suc k, less, at) = inr (k, omega arith, at)

  pub contains_none : (y : X) → Contains [] y → ⊥
  contains_none y (k, less, at) = omega arith

  contains_first : (x : X) (xs : List X) (y : X) → x ≡ y → Contains (x ∷ xs) y
  contains_first x xs y same = (0, omega arith, same)

  contains_later : (x : X) (xs : List X) (y : X) → Contains xs y → Contains (x ∷ xs) y
  contains_later x xs y there = Contains-append_right (x ∷ []) xs y there

  module _ (test : X → Bool) where
    kept_later : (b : Bool) (x : X) (kept : List X) (y : X) → Contains kept y → Contains (cond b (x ∷ kept) kept) y
    kept_later true x kept y there = contains_later x kept y there
    kept_later false x kept y there = there

    kept_first : (b : Bool) (x : X) (kept : List X) (y : X) → b ≡ true → x ≡ y → Contains (cond b (x ∷ kept) kept) y
    kept_first true x kept y passes same = contains_first x kept y same
    kept_first false x kept y passes same = absurd cc

    kept_cases : (b : Bool) (x : X) (kept : List X) (y : X) → Contains (cond b (x ∷ kept) kept) y → ((b ≡ true) × (x ≡ y)) ⊎ Contains kept y
    kept_cases true x kept y there = elim (contains_cases x kept y there) [ inl same ↦ inl (refl, same) | inr later ↦ inr later ]
    kept_cases false x kept y there = inr there

    -- what a filter keeps are the members that pass
    pub contains_filter : (xs : List X) (y : X) → Contains xs y → test y ≡ true → Contains (filter test xs) y
    contains_filter [] y there passes = absurd (contains_none y there)
    contains_filter (x ∷ xs) y there passes =
        elim (contains_cases x xs y there) [
          | inl same ↦ kept_first (test x) x (filter test xs) y (ap test same ∙ passes) same
          | inr later ↦ kept_later (test x) x (filter test xs) y (contains_filter xs y later passes)
        ]

    pub contains_from_filter : (xs : List X) (y : X) → Contains (filter test xs) y → Contains xs y × (test y ≡ true)
    contains_from_filter [] y there = absurd (contains_none y there)
    contains_from_filter (x ∷ xs) y there =
        elim (kept_cases (test x) x (filter test xs) y there) [
          | inl first ↦ (contains_first x xs y first.1, ap test (sym first.1) ∙ first.0)
          | inr later ↦ (contains_later x xs y (contains_from_filter xs y later).0, (contains_from_filter xs y later).1)
        ]

    either : (b rest : Bool) → (b || rest) ≡ true → (b ≡ true) ⊎ (rest ≡ true)
    either true rest found = inl refl
    either false rest found = inr found

    -- a test that passes at some member, and the member
    pub any_found : (xs : List X) → list_any test xs ≡ true → (x : X) × Contains xs x × (test x ≡ true)
    any_found [] found = absurd cc
    any_found (x ∷ xs) found =
        elim (either (test x) (list_any test xs) found) [
          | inl passes ↦ (x, contains_first x xs x refl, passes)
          | inr later ↦ let more = any_found xs later in (more.0, contains_later x xs more.0 more.1, more.2)
        ]

    pub any_at : (xs : List X) (x : X) → Contains xs x → test x ≡ true → list_any test xs ≡ true
    any_at xs x (k, less, at) passes = list_any_at test xs k x less (ap test at ∙ passes)

-- the members of lists that are joined
pub contains_flat_map : {X Y : Type 0} (f : X → List Y) (xs : List X) (x : X) (y : Y) → Contains xs x → Contains (f x) y → Contains (flat_map f xs) y
contains_flat_map f [] x y there inside = absurd (contains_none x there)
contains_flat_map {X} {Y} f (z ∷ xs) x y there inside =
    elim (contains_cases z xs x there) [
      | inl same ↦ Contains-append_left (f z) (flat_map f xs) y (subst (λ (w : X). Contains (f w) y) (sym same) inside)
      | inr later ↦ Contains-append_right (f z) (flat_map f xs) y (contains_flat_map f xs x y later inside)
    ]

pub contains_from_flat_map : {X Y : Type 0} (f : X → List Y) (xs : List X) (y : Y) → Contains (flat_map f xs) y → (x : X) × Contains xs x × Contains (f x) y
contains_from_flat_map f [] y there = absurd (contains_none y there)
contains_from_flat_map f (x ∷ xs) y there =
    elim (Contains-append_cases (f x) (flat_map f xs) y there) [
      | inl first ↦ (x, contains_first x xs x refl, first)
      | inr later ↦ let more = contains_from_flat_map f xs y later in (more.0, contains_later x xs more.0 more.1, more.2)
    ]

-- each number below a count is among those from 0 on
pub contains_below : (n k : ℕ) → k < n → Contains (range_with_len 0 n) k
contains_below n k less = (k, rw (length-range_with_len 0 n) less, get_or-range_with_len 0 n k k less ∙ omega arith)
