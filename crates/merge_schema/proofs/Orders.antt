-- The order by numbers of ancestors has parents first.
use Rattle.std.proofs.Common.{◌≡◌, ℕ, zero, suc, ◌<◌, ◌≤◌, Bool, true, false, cond, nat_le, ◌==◌, ◌⊎◌, inl, inr, List, [], ◌∷◌, length, refl, sym, ap, subst, ◌∙◌, arith}
use Rattle.std.specs.List.{Contains}
use Rattle.std.proofs.lemmas.Bool.{false≢true}
use Rattle.std.proofs.lemmas.Bool.Decides.{nat_tests}
use Rattle.std.proofs.lemmas.List.Elements.{Contains-append_right}
use Rattle.merge_schema.specs.declared.publication.JoinFilter.{JoinFilter}
use Rattle.merge_schema.specs.declared.publication.Publication.{Publication}
use Rattle.merge_schema.specs.Ancestors.{is_ancestor}
use Rattle.merge_schema.specs.EvaluationOrder.{rank_in, IsEvaluationOrder}
use Rattle.merge_schema.specs.ParentsFirst.{ancestors_of, put_by, ordered_below, evaluation_order}
use Rattle.merge_schema.specs.Partition.{joins_at}
use Rattle.merge_schema.proofs.AncestorPaths.{ancestor_found, ancestor_is}
use Rattle.merge_schema.proofs.Counts.{count_strict}
use Rattle.merge_schema.proofs.ListMembers.{contains_cases, contains_none}

first : (x : ℕ) (xs : List ℕ) (y : ℕ) → x ≡ y → Contains (x ∷ xs) y
first x xs y same = (0, omega arith, same)

later : (x : ℕ) (xs : List ℕ) (y : ℕ) → Contains xs y → Contains (x ∷ xs) y
later x xs y there = Contains-append_right (x ∷ []) xs y there

module _ (number : ℕ → ℕ) where
  -- each of a list has at most the number of those behind it
  abbrev IsRising : List ℕ → Type 0
  IsRising [] = Unit {0}
  IsRising (x ∷ xs) = ((y : ℕ) → Contains xs y → number x ≤ number y) × IsRising xs

  length_put : (place : ℕ) (xs : List ℕ) → length (put_by number place xs) ≡ suc (length xs)
  length_put place [] = refl
  length_put place (x ∷ xs) = by (nat_le (number place) (number x)) (length_put place xs)
    where
      by : (b : Bool) → length (put_by number place xs) ≡ suc (length xs) → length (cond b (place ∷ x ∷ xs) (x ∷ put_by number place xs)) ≡ suc (length (x ∷ xs))
      by true long = refl
      by false long = ap suc long

  put_there : (place : ℕ) (xs : List ℕ) → Contains (put_by number place xs) place
  put_there place [] = first place [] place refl
  put_there place (x ∷ xs) = by (nat_le (number place) (number x)) (put_there place xs)
    where
      by : (b : Bool) → Contains (put_by number place xs) place → Contains (cond b (place ∷ x ∷ xs) (x ∷ put_by number place xs)) place
      by true there = first place (x ∷ xs) place refl
      by false there = later x (put_by number place xs) place there

  put_keeps : (place : ℕ) (xs : List ℕ) (y : ℕ) → Contains xs y → Contains (put_by number place xs) y
  put_keeps place [] y there = absurd (contains_none y there)
  put_keeps place (x ∷ xs) y there = by (nat_le (number place) (number x)) (put_keeps place xs y)
    where
      by : (b : Bool) → (Contains xs y → Contains (put_by number place xs) y) → Contains (cond b (place ∷ x ∷ xs) (x ∷ put_by number place xs)) y
      by true kept = later place (x ∷ xs) y there
      by false kept = elim (contains_cases x xs y there) [
        | inl same ↦ first x (put_by number place xs) y same
        | inr more ↦ later x (put_by number place xs) y (kept more)
      ]

  from_put : (place : ℕ) (xs : List ℕ) (y : ℕ) → Contains (put_by number place xs) y → (place ≡ y) ⊎ Contains xs y
  from_put place [] y there = elim (contains_cases place [] y there) [ inl same ↦ inl same | inr more ↦ absurd (contains_none y more) ]
  from_put place (x ∷ xs) y there = by (nat_le (number place) (number x)) there (from_put place xs y)
    where
      by : (b : Bool) → Contains (cond b (place ∷ x ∷ xs) (x ∷ put_by number place xs)) y → (Contains (put_by number place xs) y → (place ≡ y) ⊎ Contains xs y) → (place ≡ y) ⊎ Contains (x ∷ xs) y
      by true h others = contains_cases place (x ∷ xs) y h
      by false h others = elim (contains_cases x (put_by number place xs) y h) [
        | inl same ↦ inr (first x xs y same)
        | inr more ↦ elim (others more) [ inl same ↦ inl same | inr there2 ↦ inr (later x xs y there2) ]
      ]

  rising_put : (place : ℕ) (xs : List ℕ) → IsRising xs → IsRising (put_by number place xs)
  rising_put place [] up = ((λ y there. absurd (contains_none y there)), tt)
  rising_put place (x ∷ xs) up = by (nat_le (number place) (number x)) refl (rising_put place xs up.1)
    where
      by : (b : Bool) → nat_le (number place) (number x) ≡ b → IsRising (put_by number place xs) → IsRising (cond b (place ∷ x ∷ xs) (x ∷ put_by number place xs))
      by true test others =
          let low : number place ≤ number x = grind (arith, nat_tests) in (
            (λ y there. elim (contains_cases x xs y there) [
              | inl same ↦ subst (λ (k : ℕ). number place ≤ number k) same low
              | inr more ↦ let high = up.0 y more in omega arith
            ]),
            up,
          )
      by false test others =
          let high : number x ≤ number place = grind (arith, nat_tests) in (
            (λ y there. elim (from_put place xs y there) [
              | inl same ↦ subst (λ (k : ℕ). number x ≤ number k) same high
              | inr more ↦ up.0 y more
            ]),
            others,
          )

  rising_below : (n : ℕ) → IsRising (ordered_below number n)
  rising_below zero = tt
  rising_below (suc n) = rising_put n (ordered_below number n) (rising_below n)

  pub length_below : (n : ℕ) → length (ordered_below number n) ≡ n
  length_below zero = refl
  length_below (suc n) = length_put n (ordered_below number n) ∙ ap suc (length_below n)

  same_or_below : (k n : ℕ) → k < suc n → (k ≡ n) ⊎ (k < n)
  same_or_below k n h = grind arith

  pub all_below : (n k : ℕ) → k < n → Contains (ordered_below number n) k
  all_below zero k less = absurd (omega arith)
  all_below (suc n) k less = elim (same_or_below k n less) [
    | inl same ↦ subst (λ (m : ℕ). Contains (ordered_below number (suc n)) m) (sym same) (put_there n (ordered_below number n))
    | inr below ↦ put_keeps n (ordered_below number n) k (all_below n k below)
  ]

  same_true : (m n : ℕ) → (m == n) ≡ true → m ≡ n
  same_true m n h = grind (arith, nat_tests)

  -- of two with unlike numbers, the one with the lower stands first
  lower_first : (xs : List ℕ) (low high : ℕ) → IsRising xs → Contains xs low → number low < number high → rank_in xs low < rank_in xs high
  lower_first [] low high up there less = absurd (contains_none low there)
  lower_first (x ∷ xs) low high up there less = by (x == low) (x == high) refl refl (λ more. lower_first xs low high up.1 more less)
    where
      by : (b d : Bool) → (x == low) ≡ b → (x == high) ≡ d → (Contains xs low → rank_in xs low < rank_in xs high) → cond b 0 (suc (rank_in xs low)) < cond d 0 (suc (rank_in xs high))
      by true true a e others =
          let one : number x ≡ number low = ap number (same_true x low a) in
          let two : number x ≡ number high = ap number (same_true x high e) in
          absurd (omega arith)
      by true false a e others = omega arith
      by false d a e others = elim (contains_cases x xs low there) [
        | inl same ↦ absurd (false≢true (sym a ∙ alike x low same))
        | inr more ↦ behind d e more
      ]
        where
          alike : (m n : ℕ) → m ≡ n → (m == n) ≡ true
          alike m n h = grind (arith, nat_tests)

          behind : (d2 : Bool) → (x == high) ≡ d2 → Contains xs low → suc (rank_in xs low) < cond d2 0 (suc (rank_in xs high))
          behind true e2 more =
              let one : number x ≡ number high = ap number (same_true x high e2) in
              let two = up.0 low more in
              absurd (omega arith)
          behind false e2 more = let h = others more in omega arith

  pub in_order : (n low high : ℕ) → low < n → number low < number high → rank_in (ordered_below number n) low < rank_in (ordered_below number n) high
  in_order n low high inside less = lower_first (ordered_below number n) low high (rising_below n) (all_below n low inside) less

-- a parent has fewer ancestors
fewer : (publication : Publication) → ((place : ℕ) → place < length publication.articles → is_ancestor publication.articles place place ≡ false)
    → (place : ℕ) (join : JoinFilter) → Contains (joins_at publication place) join → join.parent < length publication.articles → ancestors_of publication.articles join.parent < ancestors_of publication.articles place
fewer publication none place join there inside =
    count_strict (λ a. is_ancestor publication.articles a join.parent) (λ a. is_ancestor publication.articles a place) (length publication.articles)
    (λ a above. let up = ancestor_is publication.articles a join.parent above in ancestor_found publication.articles a place (suc up.0, (join, there, inr up.1)))
    join.parent inside (none join.parent inside) (ancestor_found publication.articles join.parent place (1, (join, there, inl refl)))

pub evaluation_order_is : (publication : Publication) → ((place : ℕ) → place < length publication.articles → is_ancestor publication.articles place place ≡ false)
    → ((place : ℕ) (join : JoinFilter) → Contains (joins_at publication place) join → join.parent < length publication.articles)
    → IsEvaluationOrder publication (evaluation_order publication)
evaluation_order_is publication none inside = record {
  all = λ place less. all_below (ancestors_of publication.articles) (length publication.articles) place less;
  once = length_below (ancestors_of publication.articles) (length publication.articles);
  parents_first = λ place join there.
      in_order (ancestors_of publication.articles) (length publication.articles) join.parent place (inside place join there) (fewer publication none place join there (inside place join there));
}
