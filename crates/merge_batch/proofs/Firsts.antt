-- The search over items finds the first that breaks a rule.
use Rattle.std.proofs.Common.{◌≡◌, ◌∙◌, ℕ, zero, suc, ◌+◌, ◌<◌, Bool, List, [], ◌∷◌, slice_get, Option, Some, None, MatchOption, refl, ap, arith, length, get_or, subst, All, AllPairs, true, sym, option_map}
use Rattle.std.specs.Option.{option_or}
use Rattle.std.proofs.lemmas.Option.{slice_get_within, slice_get-get_or, get_or_from_slice_get}
use Rattle.merge_batch.specs.declared.rules.BrokenRule.{BrokenRule}
use Rattle.merge_batch.specs.Search.{first_broken, broken_at, broken_from, is_below, is_above}
use Rattle.merge_batch.specs.Laws.{item_before, AllMet, IsFirst}
use Rattle.merge_batch.proofs.AllMet.{none_both}

-- before the later items stands the first one
before-suc : {X : Type 0} (before : Option X) (item : X) (items : List X) (k : ℕ) → item_before before (item ∷ items) (suc k) ≡ item_before (Some item) items k
before-suc before item items zero = refl
before-suc before item items (suc k) = refl

module _ {X : Type 0} (rules : Option X → X → List (ℕ × Bool)) where
  met-cons : (before : Option X) (item : X) (items : List X) → first_broken (rules before item) ≡ None → AllMet rules (Some item) items → AllMet rules before (item ∷ items)
  met-cons before item items met later zero x there = grind (arith, met, there)
  met-cons before item items met later (suc k) x there = ap (λ b. first_broken (rules b x)) (before-suc before item items k) ∙ later k x there

  earlier-cons : (before : Option X) (item : X) (items : List X) (at : ℕ) → first_broken (rules before item) ≡ None
      → ((k : ℕ) (x : X) → k < at → slice_get items k ≡ Some x → first_broken (rules (item_before (Some item) items k) x) ≡ None)
      → (k : ℕ) (x : X) → k < at + 1 → slice_get (item ∷ items) k ≡ Some x → first_broken (rules (item_before before (item ∷ items) k) x) ≡ None
  earlier-cons before item items at met later zero x lt there = grind (arith, met, there)
  earlier-cons before item items at met later (suc k) x lt there = ap (λ b. first_broken (rules b x)) (before-suc before item items k) ∙ later k x (omega arith) there

  found-cons : (start : ℕ) (before : Option X) (item : X) (items : List X) (here : Option ℕ) (later : Option BrokenRule) → first_broken (rules before item) ≡ here
      → MatchOption later (AllMet rules (Some item) items) (IsFirst rules (start + 1) (Some item) items)
      → MatchOption (option_or (option_map (broken_at start) here) later) (AllMet rules before (item ∷ items)) (IsFirst rules start before (item ∷ items))
  found-cons start before item items (Some rule) later same found = record {
    at = 0;
    item = item;
    there = refl;
    counted = omega arith;
    broken = same;
    earlier = λ k x lt there. absurd (omega arith);
  }
  found-cons start before item items None None same found = met-cons before item items same found
  found-cons start before item items None (Some fault) same found = record {
    at = suc found.at;
    item = found.item;
    there = found.there;
    counted = omega (arith, found.counted);
    broken = ap (λ b. first_broken (rules b found.item)) (before-suc before item items found.at) ∙ found.broken;
    earlier = λ k x lt there. earlier-cons before item items found.at same found.earlier k x (omega arith) there;
  }

  pub first_found : (start : ℕ) (before : Option X) (items : List X) → MatchOption (broken_from rules start before items) (AllMet rules before items) (IsFirst rules start before items)
  first_found start before [] = λ k x there. absurd (cc there)
  first_found start before (item ∷ items) = found-cons start before item items (first_broken (rules before item)) (broken_from rules (start + 1) (Some item) items) refl (first_found (start + 1) (Some item) items)

  -- where each item meets its rules, the search finds none
  pub none_found : (start : ℕ) (before : Option X) (items : List X) → AllMet rules before items → broken_from rules start before items ≡ None
  none_found start before [] met = refl
  none_found start before (item ∷ items) met =
      none_both (broken_at start) (first_broken (rules before item)) (broken_from rules (start + 1) (Some item) items) (met 0 item refl)
      (none_found (start + 1) (Some item) items (λ k x there. sym (ap (λ b. first_broken (rules b x)) (before-suc before item items k)) ∙ met (suc k) x there))

-- what holds of all holds of the one at a place
pub all-at : {X : Type 0} (P : X → Type 0) (items : List X) → All P items → (k : ℕ) (x : X) → slice_get items k ≡ Some x → P x
all-at P items all k x there = subst P (get_or_from_slice_get items k x x there) (all k x (slice_get_within items k x there))

-- where rows rise, each is above the one before it
pub above-before : {X : Type 0} (key : X → ℕ × ℕ) (items : List X) → AllPairs (λ a b. is_below (key a) (key b) ≡ true) items
    → (k : ℕ) (x : X) → slice_get items k ≡ Some x → is_above (option_map key (item_before None items k)) (key x) ≡ true
above-before key items rise zero x there = refl
above-before key items rise (suc k) x there =
    let within : suc k < length items = slice_get_within items (suc k) x there in
    let last : slice_get items k ≡ Some (get_or items k x) = slice_get-get_or items k x (omega arith) in
    let below = subst (λ y. is_below (key (get_or items k x)) (key y) ≡ true) (get_or_from_slice_get items (suc k) x x there) (rise k (suc k) x (omega arith) within) in
    subst (λ o. is_above (option_map key o) (key x) ≡ true) (sym last) below
