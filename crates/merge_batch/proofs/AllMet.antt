-- Rules that are all met, and items that rise.
use Rattle.std.proofs.Common.{◌&&◌, ◌≡◌, ℕ, zero, suc, ◌+◌, Bool, true, false, List, [], ◌∷◌, get_or, slice_get, not, sym, Option, Some, None, option_map, All, AllPairs, refl, arith}
use Rattle.std.specs.List.{list_all}
use Rattle.std.specs.Option.{option_or}
use Rattle.std.proofs.lemmas.Bool.Decides.{nat_tests}
use Rattle.std.proofs.lemmas.List.Kept.{AllPairs-cons}
use Rattle.std.proofs.lemmas.List.Elements.{All-nil, All-cons}
use Rattle.merge_batch.specs.Search.{first_broken, broken_at, broken_from, is_below, is_above}

-- whether a rule is met
abbrev pub is_met : ℕ × Bool → Bool
is_met rule = rule.1

-- where no rule is broken, all are met
pub all_met : (rules : List (ℕ × Bool)) → first_broken rules ≡ None → list_all is_met rules ≡ true
all_met [] none = refl
all_met ((number, true) ∷ rules) none = all_met rules none
all_met ((number, false) ∷ rules) none = absurd (cc none)

-- and so is each of them
pub met-at : (rules : List (ℕ × Bool)) (k : ℕ) (rule : ℕ × Bool) → list_all is_met rules ≡ true → slice_get rules k ≡ Some rule → rule.1 ≡ true
met-at [] k rule met there = absurd (cc there)
met-at (first ∷ rules) zero rule met there = grind (arith, met, there)
met-at (first ∷ rules) (suc k) rule met there = met-at rules k rule (grind (arith, met)) there

pub not-true : (b : Bool) → not b ≡ true → b ≡ false
not-true true met = sym met
not-true false met = refl

-- where all are met, none is broken
pub none_broken : (rules : List (ℕ × Bool)) → list_all is_met rules ≡ true → first_broken rules ≡ None
none_broken [] met = refl
none_broken ((number, true) ∷ rules) met = none_broken rules met
none_broken ((number, false) ∷ rules) met = absurd (cc met)

pub both_met : {a b : Bool} → a ≡ true → b ≡ true → (a && b) ≡ true
both_met {a} {b} first second = grind (arith, first, second)

pub not-false : (b : Bool) → b ≡ false → not b ≡ true
not-false true unmet = absurd (cc unmet)
not-false false unmet = refl

-- two searches that find nothing find nothing together
pub none_both : {A B : Type 0} (f : A → B) (a : Option A) (b : Option B) → a ≡ None → b ≡ None → option_or (option_map f a) b ≡ None
none_both f None b first second = second
none_both f (Some x) b first second = absurd (cc first)

-- of two searches that find nothing
pub none_first : {A : Type 0} (a b : Option A) → option_or a b ≡ None → a ≡ None
none_first None b none = refl
none_first (Some x) b none = absurd (cc none)

pub none_second : {A : Type 0} (a b : Option A) → option_or a b ≡ None → b ≡ None
none_second None b none = none
none_second (Some x) b none = absurd (cc none)

pub none_mapped : {A B : Type 0} (f : A → B) (o : Option A) → option_map f o ≡ None → o ≡ None
none_mapped f None none = refl
none_mapped f (Some x) none = absurd (cc none)

-- rows rise along
pub is_below-along : (a b c : ℕ × ℕ) → is_below a b ≡ true → is_below b c ≡ true → is_below a c ≡ true
is_below-along a b c first second = grind (arith, nat_tests, first, second)

module _ {X : Type 0} (key : X → ℕ × ℕ) (rules : Option X → X → List (ℕ × Bool))
    (rises : (before : Option X) (x : X) → first_broken (rules before x) ≡ None → is_above (option_map key before) (key x) ≡ true) where
  -- all items are above the one before them
  above_before : (start : ℕ) (before : X) (items : List X) → broken_from rules start (Some before) items ≡ None
      → All (λ x. is_below (key before) (key x) ≡ true) items
  above_before start before [] none = All-nil (λ x. is_below (key before) (key x) ≡ true)
  above_before start before (item ∷ items) none =
      let rest = none_second (option_map (broken_at start) (first_broken (rules (Some before) item))) (broken_from rules (start + 1) (Some item) items) none in
      let here = rises (Some before) item (none_mapped (broken_at start) (first_broken (rules (Some before) item)) (none_first (option_map (broken_at start) (first_broken (rules (Some before) item))) (broken_from rules (start + 1) (Some item) items) none)) in
      All-cons (λ x. is_below (key before) (key x) ≡ true) item items here
      (λ i d lt. is_below-along (key before) (key item) (key (get_or items i d)) here (above_before (start + 1) item items rest i d lt))

  -- each item is below all later ones
  pub rows_rise : (start : ℕ) (before : Option X) (items : List X) → broken_from rules start before items ≡ None
      → AllPairs (λ a b. is_below (key a) (key b) ≡ true) items
  rows_rise start before [] none = λ i j d lt within. absurd (omega arith)
  rows_rise start before (item ∷ items) none =
      let rest = none_second (option_map (broken_at start) (first_broken (rules before item))) (broken_from rules (start + 1) (Some item) items) none in
      AllPairs-cons (λ a b. is_below (key a) (key b) ≡ true) item items (above_before (start + 1) item items rest) (rows_rise (start + 1) (Some item) items rest)

module _ {X : Type 0} (Good : X → Type 0) (rules : Option X → X → List (ℕ × Bool))
    (good : (before : Option X) (x : X) → first_broken (rules before x) ≡ None → Good x) where
  pub all_good : (start : ℕ) (before : Option X) (items : List X) → broken_from rules start before items ≡ None → All Good items
  all_good start before [] none = All-nil Good
  all_good start before (item ∷ items) none =
      let rest = none_second (option_map (broken_at start) (first_broken (rules before item))) (broken_from rules (start + 1) (Some item) items) none in
      let here = none_mapped (broken_at start) (first_broken (rules before item)) (none_first (option_map (broken_at start) (first_broken (rules before item))) (broken_from rules (start + 1) (Some item) items) none) in
      All-cons Good item items (good before item here) (all_good (start + 1) (Some item) items rest)
