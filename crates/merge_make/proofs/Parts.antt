-- The script by its parts: how many events each has, and the event with a place.
use Rattle.std.proofs.Common.{List, None, Some, [], ap, arith, drop, drop-cons, get_or, length, refl, subst, sym, zero, suc, ℕ, ◌*◌, ◌+◌, ◌++◌, ◌/◌, ◌<◌, ◌≤◌, ◌∙◌, ◌∷◌, ◌≡◌, ◌-◌, ◌^◌}
use Rattle.std.specs.Prelude.{Option}
use Rattle.std.specs.List.{flat_map, slice_get}
use Rattle.std.proofs.lemmas.List.Concat.{length-flat_map}
use Rattle.merge_batch.proofs.Values.{slice_get-append_past, slice_get-append_within}
use Rattle.merge_model.specs.declared.event.Event.{Event}
use Rattle.merge_make.specs.Events.{customer, event_of_cancel, event_of_clearing, event_of_credit, event_of_delete, event_of_move, order}
use Rattle.merge_make.specs.Script.{events_in, parts, script}
use Rattle.merge_make.specs.Steps.{event_of}
use Rattle.merge_make.specs.declared.part.Part.{Part}
use Rattle.merge_make.specs.declared.part.Part.TheVariants.{Cancellations, Clearings, Credits, Customers, Moves, Orders}
use Rattle.merge_make.specs.declared.step.Step.TheVariants as step
use Rattle.merge_make.proofs.Multiples.{count-multiples, count-numbered, multiple-at, numbered-at}

pub count-customers : (n : ℕ) → n ≡ length (events_in n Customers)
count-customers n = sym (count-numbered customer n)

pub count-credits : (n : ℕ) → n ≡ length (events_in n Credits)
count-credits n = sym (count-numbered event_of_credit n)

pub count-orders : (n : ℕ) → 2 * n ≡ length (events_in n Orders)
count-orders n = sym (count-numbered order (2 * n))

pub count-clearings : (n : ℕ) → n / 4 ≡ length (events_in n Clearings)
count-clearings n = sym (count-multiples event_of_clearing 4 n (omega arith))

pub count-cancellations : (n : ℕ) → n / 5 ≡ length (events_in n Cancellations)
count-cancellations n = sym (count-multiples (event_of_cancel n) 5 n (omega arith))

pub count-moves : (n : ℕ) → n / 7 ≡ length (events_in n Moves)
count-moves n = sym (count-multiples event_of_move 7 n (omega arith))

-- The steps with a place.

pub customer-at : (n place : ℕ) → place < length (events_in n Customers) → slice_get (events_in n Customers) place ≡ Some (event_of (step.Customer place))
customer-at n place less = numbered-at customer n place less

pub order-at : (n place : ℕ) → place < length (events_in n Orders) → slice_get (events_in n Orders) place ≡ Some (event_of (step.Order place))
order-at n place less = numbered-at order (2 * n) place less

pub credit-at : (n place : ℕ) → place < length (events_in n Credits) → slice_get (events_in n Credits) place ≡ Some (event_of (step.Credit place))
credit-at n place less = numbered-at event_of_credit n place less

pub clearing-at : (n place at : ℕ) → place < length (events_in n Clearings) → at ≡ 4 * place + 3 → slice_get (events_in n Clearings) place ≡ Some (event_of (step.Clear at))
clearing-at n place at less is = multiple-at event_of_clearing 4 n place (at + 1) (omega arith) less (omega (arith, is))

pub move-at : (n place at : ℕ) → place < length (events_in n Moves) → at ≡ 7 * place + 6 → slice_get (events_in n Moves) place ≡ Some (event_of (step.Move at))
move-at n place at less is = multiple-at event_of_move 7 n place (at + 1) (omega arith) less (omega (arith, is))

pub cancellation-at : (n place at : ℕ) → place < length (events_in n Cancellations) → at ≡ n + 10 * place + 9 → slice_get (events_in n Cancellations) place ≡ Some (event_of (step.Cancel at))
cancellation-at n place at less is =
    multiple-at (event_of_cancel n) 5 n place (5 * (place + 1)) (omega arith) less refl
    ∙ ap (λ (m : ℕ). Some (event_of_delete m)) (let same : n + 2 * (5 * (place + 1)) ≡ at + 1 = omega (arith, is) in same)

-- The same of a part that is known to be one of these.

pub counted : (n m : ℕ) (part other : Part) → part ≡ other → m ≡ length (events_in n other) → m ≡ length (events_in n part)
counted n m part other is count = subst (λ (p : Part). m ≡ length (events_in n p)) (sym is) count

pub of-part : (n place : ℕ) (part other : Part) (found : Option Event) → part ≡ other → place < length (events_in n part) → (place < length (events_in n other) → slice_get (events_in n other) place ≡ found) → slice_get (events_in n part) place ≡ found
of-part n place part other found is less at =
    subst (λ (p : Part). slice_get (events_in n p) place ≡ found) (sym is) (at (subst (λ (p : Part). place < length (events_in n p)) is less))

-- places are few

pub below-clearings : (n place : ℕ) (part : Part) → part ≡ Clearings → place < length (events_in n part) → place < n / 4
below-clearings n place part is less = let count = count-clearings n in let here = subst (λ (p : Part). place < length (events_in n p)) is less in subst (λ (m : ℕ). place < m) (sym count) here

pub below-cancellations : (n place : ℕ) (part : Part) → part ≡ Cancellations → place < length (events_in n part) → place < n / 5
below-cancellations n place part is less = let count = count-cancellations n in let here = subst (λ (p : Part). place < length (events_in n p)) is less in subst (λ (m : ℕ). place < m) (sym count) here

pub below-moves : (n place : ℕ) (part : Part) → part ≡ Moves → place < length (events_in n part) → place < n / 7
below-moves n place part is less = let count = count-moves n in let here = subst (λ (p : Part). place < length (events_in n p)) is less in subst (λ (m : ℕ). place < m) (sym count) here

-- Parts one after the other.

module _ (n : ℕ) where
  abbrev events : List Part → List Event
  events parts = flat_map (events_in n) parts

  pub drop-parts : (k : ℕ) (first : Part) → k < 9 → drop k parts ≡ get_or parts k first ∷ drop (k + 1) parts
  drop-parts k first less = let on : suc k ≡ k + 1 = omega arith in drop-cons parts k first less ∙ ap (λ (m : ℕ). get_or parts k first ∷ drop m parts) on

  module _ (place left k len : ℕ) (part : Part) (here : drop k parts ≡ part ∷ drop (k + 1) parts) (so_far : slice_get (script n) place ≡ slice_get (events (drop k parts)) left) (count : len ≡ length (events_in n part)) where
    split : slice_get (script n) place ≡ slice_get (events_in n part ++ events (drop (k + 1) parts)) left
    split = so_far ∙ ap (λ (l : List Part). slice_get (events l) left) here

    -- the place lies in the first part that is left
    pub found-at : left < len → (found : Option Event) → slice_get (events_in n part) left ≡ found → found ≡ slice_get (script n) place
    found-at less found is = sym is ∙ sym (slice_get-append_within (events_in n part) (events (drop (k + 1) parts)) left (omega (arith, count, less))) ∙ sym split

    -- or behind it
    pub passed-on : len ≤ left → (rest : ℕ) → rest ≡ left - len → slice_get (script n) place ≡ slice_get (events (drop (k + 1) parts)) rest
    passed-on le rest is = split ∙ slice_get-append_past (events_in n part) (events (drop (k + 1) parts)) left rest (omega (arith, count, le, is))

pub count-script : (n : ℕ) → 4 * n + n / 4 + n / 5 + n / 7 + 17 ≡ length (script n)
count-script n =
    let all : length (script n) ≡ 0 + length (events_in n Customers) + length (events_in n Orders) + 3 + length (events_in n Credits) + length (events_in n Clearings) + 6 + length (events_in n Cancellations) + length (events_in n Moves) + 8 = length-flat_map (events_in n) parts in
    sum-of n (n / 4) (n / 5) (n / 7) (length (events_in n Customers)) (length (events_in n Orders)) (length (events_in n Credits)) (length (events_in n Clearings)) (length (events_in n Cancellations)) (length (events_in n Moves))
    (count-customers n) (count-orders n) (count-credits n) (count-clearings n) (count-cancellations n) (count-moves n)
    ∙ sym all
  where
    sum-of : (n q r s a b c d e f : ℕ) → n ≡ a → 2 * n ≡ b → n ≡ c → q ≡ d → r ≡ e → s ≡ f → 4 * n + q + r + s + 17 ≡ 0 + a + b + 3 + c + d + 6 + e + f + 8
    sum-of n q r s a b c d e f is-a is-b is-c is-d is-e is-f = omega (arith, is-a, is-b, is-c, is-d, is-e, is-f)

pub few-events : (n : ℕ) → n < 2 ^ 16 → length (script n) < 2 ^ 19
few-events n small = let count = count-script n in omega (arith, count, small)

-- What is left of a list from a place on.

pub next-left : {X : Type 0} (xs : List X) (k : ℕ) (x : X) → Some x ≡ slice_get xs k → drop k xs ≡ x ∷ drop (k + 1) xs
next-left [] k x is = absurd (cc is)
next-left (y ∷ xs) zero x is = let same : x ≡ y = cc is in ap (λ (z : _). z ∷ xs) (sym same)
next-left (y ∷ xs) (suc k) x is = let on : suc (k + 1) ≡ suc k + 1 = omega arith in next-left xs k x is ∙ ap (λ (m : ℕ). x ∷ drop m (y ∷ xs)) on

pub less-left : {X : Type 0} (xs : List X) (k : ℕ) (x : X) → Some x ≡ slice_get xs k → length (drop (k + 1) xs) < length (drop k xs)
less-left xs k x is = let long : length (drop k xs) ≡ suc (length (drop (k + 1) xs)) = ap (λ (l : List _). length l) (next-left xs k x is) in omega (arith, long)

pub nothing-left : {X : Type 0} (xs : List X) (k : ℕ) → None ≡ slice_get xs k → drop k xs ≡ []
nothing-left [] zero is = refl
nothing-left [] (suc k) is = refl
nothing-left (y ∷ xs) zero is = absurd (cc is)
nothing-left (y ∷ xs) (suc k) is = nothing-left xs k is
