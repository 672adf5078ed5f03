-- The generations that are kept with a row, and the changes that were made of it.
use Rattle.std.specs.Prelude.{◌≡◌, ◌≤◌, ◌<◌, ◌-◌, ◌++◌, ◌&&◌, ◌||◌, ℕ, List, [], ◌∷◌, Bool, true, false, Option, Some, None, refl, cond, filter, find, nat_le, nat_lt, option_map}
use Rattle.std.specs.List.{last_or, list_any}
use Rattle.std.proofs.Common.{arith, ap, ◌∙◌}
use Rattle.std.proofs.lemmas.Bool.Decides.{nat_tests}
use Rattle.std.proofs.lemmas.List.Elements.{filter-append}
use Rattle.std.proofs.lemmas.List.Folds.{list_any-append}
use Rattle.merge_model.specs.Judge.ByNumbers.{last_between}
use Rattle.merge_model.specs.History.{MadeChange}
use Rattle.merge_model.specs.Tables.Keys.{same_key}
use Rattle.merge_model.specs.Subscriber.{with_open}
use Rattle.merge_types.specs.declared.row_key.RowKey.{RowKey as Key}
use Rattle.merge_laws.specs.Facts.Numbered.{InOrder, last_of}
use Rattle.merge_laws.specs.Invariants.Unsent.{is_changed_above, last_made}
use Rattle.merge_laws.proofs.Numbered.Through.{last-older, order-within}

-- Tests over what passed another one.

module _ (p q : ℕ → Bool) where
  within-step : (b : Bool) (x : ℕ) (kept xs : List ℕ) → p x ≡ b → (q x ≡ true → p x ≡ true) → filter q kept ≡ filter q xs → filter q (cond b (x ∷ kept) kept) ≡ filter q (x ∷ xs)
  within-step true x kept xs e implies h = ap (λ (rest : List ℕ). cond (q x) (x ∷ rest) rest) h
  within-step false x kept xs e implies h = grind (arith, e, implies, h)

  pub filter-within : ((x : ℕ) → q x ≡ true → p x ≡ true) → (xs : List ℕ) → filter q (filter p xs) ≡ filter q xs
  filter-within implies [] = refl
  filter-within implies (x ∷ xs) = within-step (p x) x (filter p xs) xs refl (implies x) (filter-within implies xs)

  apart-step : (b : Bool) (x : ℕ) (kept : List ℕ) → p x ≡ b → (p x ≡ true → q x ≡ false) → filter q kept ≡ [] → filter q (cond b (x ∷ kept) kept) ≡ []
  apart-step true x kept e apart h = grind (arith, e, apart, h)
  apart-step false x kept e apart h = h

  pub filter-apart : ((x : ℕ) → p x ≡ true → q x ≡ false) → (xs : List ℕ) → filter q (filter p xs) ≡ []
  filter-apart apart [] = refl
  filter-apart apart (x ∷ xs) = apart-step (p x) x (filter p xs) refl (apart x) (filter-apart apart xs)

  any-within-step : (b : Bool) (x : ℕ) (kept xs : List ℕ) → p x ≡ b → (q x ≡ true → p x ≡ true) → list_any q kept ≡ list_any q xs → list_any q (cond b (x ∷ kept) kept) ≡ list_any q (x ∷ xs)
  any-within-step true x kept xs e implies h = ap (λ (rest : Bool). q x || rest) h
  any-within-step false x kept xs e implies h = grind (arith, e, implies, h)

  pub any-within : ((x : ℕ) → q x ≡ true → p x ≡ true) → (xs : List ℕ) → list_any q (filter p xs) ≡ list_any q xs
  any-within implies [] = refl
  any-within implies (x ∷ xs) = any-within-step (p x) x (filter p xs) xs refl (implies x) (any-within implies xs)

  any-apart-step : (b : Bool) (x : ℕ) (kept : List ℕ) → p x ≡ b → (p x ≡ true → q x ≡ false) → list_any q kept ≡ false → list_any q (cond b (x ∷ kept) kept) ≡ false
  any-apart-step true x kept e apart h = grind (arith, e, apart, h)
  any-apart-step false x kept e apart h = h

  pub any-apart : ((x : ℕ) → p x ≡ true → q x ≡ false) → (xs : List ℕ) → list_any q (filter p xs) ≡ false
  any-apart apart [] = refl
  any-apart apart (x ∷ xs) = any-apart-step (p x) x (filter p xs) refl (apart x) (any-apart apart xs)

-- The open generation comes last.

abbrev is_above : ℕ → ℕ → Bool
is_above above generation = nat_lt above generation

abbrev is_before : ℕ → ℕ → Bool
is_before current generation = nat_lt generation current

abbrev is_between : ℕ → ℕ → ℕ → Bool
is_between from to generation = nat_lt from generation && nat_le generation to

open-step : (above current : ℕ) (b old x y : Bool) → nat_lt above current ≡ b → y ≡ (old || (nat_lt above current || false)) → (current ≤ above → old ≡ false) → (current ≤ above → x ≡ false) → y ≡ (nat_lt above current || x)
open-step above current true old x y e is none gone = grind (arith, nat_tests, e, is)
open-step above current false old x y e is none gone = grind (arith, nat_tests, e, is, none, gone)

pub open-above : (above current : ℕ) (gens : List ℕ) (x : Bool) → (current ≤ above → x ≡ false) → list_any (is_above above) (with_open current gens) ≡ (nat_lt above current || x)
open-above above current gens x gone = open-step above current (nat_lt above current) (list_any (is_above above) (filter (is_before current) gens)) x (list_any (is_above above) (with_open current gens)) refl
    (list_any-append (is_above above) (filter (is_before current) gens) (current ∷ []))
    (λ low. any-apart (is_before current) (is_above above) (λ g before. grind (arith, nat_tests, before, low)) gens) gone

last-append : (o : Option ℕ) (xs ys : List ℕ) → last_or o (xs ++ ys) ≡ last_or (last_or o xs) ys
last-append o [] ys = refl
last-append o (x ∷ xs) ys = last-append (Some x) xs ys

open-last : (from to current : ℕ) (gens : List ℕ) → last_between from to (with_open current gens) ≡ last_or (last_between from to (filter (is_before current) gens)) (filter (is_between from to) (current ∷ []))
open-last from to current gens = ap (λ (xs : List ℕ). last_or None xs) (filter-append (is_between from to) (filter (is_before current) gens) (current ∷ []))
    ∙ last-append None (filter (is_between from to) (filter (is_before current) gens)) (filter (is_between from to) (current ∷ []))

-- it is the last one where it lies between, else that of the rest, or none
pub open-between : (from to current : ℕ) (gens : List ℕ) → from < current → current ≤ to → last_between from to (with_open current gens) ≡ Some current
open-between from to current gens low up = open-last from to current gens
    ∙ ap (λ (b : Bool). last_or (last_between from to (filter (is_before current) gens)) (cond b (current ∷ []) [])) (let all : is_between from to current ≡ true = grind (arith, nat_tests, low, up) in all)

pub open-behind : (from to current : ℕ) (gens : List ℕ) → to < current → last_between from to (with_open current gens) ≡ last_between from to gens
open-behind from to current gens up = open-last from to current gens
    ∙ ap (λ (b : Bool). last_or (last_between from to (filter (is_before current) gens)) (cond b (current ∷ []) [])) (let none : is_between from to current ≡ false = grind (arith, nat_tests, up) in none)
    ∙ ap (λ (xs : List ℕ). last_or None xs) (filter-within (is_before current) (is_between from to) (λ g between. grind (arith, nat_tests, between, up)) gens)

pub open-beyond : (from to current : ℕ) (gens : List ℕ) → current ≤ from → last_between from to (with_open current gens) ≡ None
open-beyond from to current gens low = open-last from to current gens
    ∙ ap (λ (b : Bool). last_or (last_between from to (filter (is_before current) gens)) (cond b (current ∷ []) [])) (let none : is_between from to current ≡ false = grind (arith, nat_tests, low) in none)
    ∙ ap (λ (xs : List ℕ). last_or None xs) (filter-apart (is_before current) (is_between from to) (λ g before. grind (arith, nat_tests, before, low)) gens)

-- What is received is no longer kept.

pub above-kept : (received above : ℕ) (gens : List ℕ) → received ≤ above → list_any (is_above above) (filter (is_above received) gens) ≡ list_any (is_above above) gens
above-kept received above gens up = any-within (is_above received) (is_above above) (λ g more. grind (arith, nat_tests, more, up)) gens

pub between-kept : (received from to : ℕ) (gens : List ℕ) → received ≤ from → last_between from to (filter (is_above received) gens) ≡ last_between from to gens
between-kept received from to gens up = ap (λ (xs : List ℕ). last_or None xs) (filter-within (is_above received) (is_between from to) (λ g more. grind (arith, nat_tests, more, up)) gens)

-- Changes in order: none is above the last generation.

pub order-above : (number generation above : ℕ) (key : Key) (made : List MadeChange) → generation ≤ above → InOrder number generation made → is_changed_above above key made ≡ false
order-above number generation above key [] up o = refl
order-above number generation above key (c ∷ made) up o =
    let head : c.generation ≤ generation = o.1.1.0 in
    let rest : is_changed_above above key made ≡ false = order-above (number - 1) c.generation above key made (omega (arith, head, up)) o.1.1.1.1 in
    grind (arith, nat_tests, rest, head, up)

pub none-above : (received above : ℕ) (key : Key) (made : List MadeChange) → received ≤ above → is_changed_above received key made ≡ false → is_changed_above above key made ≡ false
none-above received above key [] up none = refl
none-above received above key (c ∷ made) up none =
    let rest : is_changed_above above key made ≡ false = none-above received above key made up (grind (arith, none)) in
    grind (arith, nat_tests, none, rest, up)

found-none : (b : Bool) (c : MadeChange) (rest : Option MadeChange) → b ≡ false → option_map (λ (change : MadeChange). change.generation) rest ≡ None → option_map (λ (change : MadeChange). change.generation) (cond b (Some c) rest) ≡ None
found-none true c rest e h = absurd (grind (arith, e))
found-none false c rest e h = h

pub none-between : (received from to : ℕ) (key : Key) (made : List MadeChange) → received ≤ from → is_changed_above received key made ≡ false → last_made from to key made ≡ None
none-between received from to key [] up none = refl
none-between received from to key (c ∷ made) up none =
    found-none (is_between from to c.generation && same_key key c.key) c (find (λ (change : MadeChange). is_between from to change.generation && same_key key change.key) made) (grind (arith, nat_tests, none, up))
    (none-between received from to key made up (grind (arith, none)))

-- where the last change stands up to a generation, all do
closed-head : (number to : ℕ) (c : MadeChange) (made : List MadeChange) (b : Bool) → nat_le c.generation to ≡ b → last_of to made ≤ number - 1 → 1 ≤ number → number ≡ last_of to (c ∷ made) → c.generation ≤ to
closed-head number to c made true e most some last = grind (arith, nat_tests, e)
closed-head number to c made false e most some last = let older = last-older to c made (grind (arith, nat_tests, e)) in absurd (omega (arith, older, most, some, last))

pub order-closed : (number generation to : ℕ) (made : List MadeChange) → InOrder number generation made → number ≡ last_of to made → InOrder number to made
order-closed number generation to [] o last = o
order-closed number generation to (c ∷ made) o last = (o.0, (o.1.0, (closed-head number to c made (nat_le c.generation to) refl (order-within to (number - 1) c.generation made o.1.1.1.1) o.1.0 last, o.1.1.1)))
