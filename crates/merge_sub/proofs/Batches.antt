-- The end of a batch is found by a walk from one generation to the next.
use Rattle.std.specs.List.{last_or, range_with_len}
use Rattle.std.specs.Prelude.{◌≡◌, ◌+◌, ◌-◌, ◌≤◌, ℕ, zero, suc, Bool, true, false, List, [], ◌∷◌, None, Some, cond, filter, min, nat_le, nat_lt, unwrap_or, refl, ◌<◌, length}
use Rattle.std.proofs.Common.{ap, arith, sym, ◌∙◌}
use Rattle.std.proofs.lemmas.Bool.Decides.{nat_tests}
use Rattle.merge_types.specs.Limits.{generation_limit, item_limit}
use Rattle.merge_types.specs.declared.row_key.RowKey.{RowKey}
use Rattle.merge_units.specs.declared.site_row.SubscriberRow.{SubscriberRow}
use Rattle.merge_model.specs.Publisher.PublisherDownload.{batch_end}
use Rattle.merge_sub.proofs.ChangedRows.{count-rises, sent-count}
use Rattle.merge_sub.specs.Sent.{AreChanged, changed_count}

-- from one generation on by so many, as long as the items fit
abbrev pub walk : (ℕ → ℕ) → ℕ → ℕ → ℕ
walk f to zero = to
walk f to (suc n) = cond (nat_le (f (to + 1)) item_limit) (walk f (to + 1) n) to

abbrev fits : (ℕ → ℕ) → ℕ → Bool
fits f to = nat_le (f to) item_limit

last-some : (x d : ℕ) (xs : List ℕ) → unwrap_or (last_or (Some x) xs) d ≡ unwrap_or (last_or None xs) x
last-some x d [] = refl
last-some x d (y ∷ xs) = last-some y d xs ∙ sym (last-some y x xs)

over-more : (a b limit : ℕ) → a ≤ b → nat_le a limit ≡ false → nat_le b limit ≡ false
over-more a b limit less over = grind (arith, nat_tests, over, less)

none-fits : (f : ℕ → ℕ) → ((a b : ℕ) → a ≤ b → f a ≤ f b) → (s n : ℕ) → fits f s ≡ false → filter (fits f) (range_with_len s n) ≡ []
none-fits f rises s zero over = refl
none-fits f rises s (suc n) over =
    let more : fits f (s + 1) ≡ false = over-more (f s) (f (s + 1)) item_limit (rises s (s + 1) (omega arith)) over in
    ap (λ (b : Bool). (let kept : List ℕ = cond b (s ∷ filter (fits f) (range_with_len (s + 1) n)) (filter (fits f) (range_with_len (s + 1) n)) in kept)) over ∙ none-fits f rises (s + 1) n more

walk-step : (f : ℕ → ℕ) (from : ℕ) (rest : List ℕ) (end : ℕ) (b : Bool) → (b ≡ false → rest ≡ []) → unwrap_or (last_or None rest) (from + 1) ≡ end
    → unwrap_or (last_or None (let kept : List ℕ = cond b ((from + 1) ∷ rest) rest in kept)) from ≡ cond b end from
walk-step f from rest end true none same = last-some (from + 1) from rest ∙ same
walk-step f from rest end false none same = ap (λ (xs : List ℕ). unwrap_or (last_or None xs) from) (none refl)

walks : (f : ℕ → ℕ) → ((a b : ℕ) → a ≤ b → f a ≤ f b) → (from n : ℕ) → unwrap_or (last_or None (filter (fits f) (range_with_len (from + 1) n))) from ≡ walk f from n
walks f rises from zero = refl
walks f rises from (suc n) =
    walk-step f from (filter (fits f) (range_with_len (from + 1 + 1) n)) (walk f (from + 1) n) (fits f (from + 1))
    (λ over. none-fits f rises (from + 1 + 1) n (over-more (f (from + 1)) (f (from + 1 + 1)) item_limit (rises (from + 1) (from + 1 + 1) (omega arith)) over)) (walks f rises (from + 1) n)

pub batch-walk : (f : ℕ → ℕ) → ((a b : ℕ) → a ≤ b → f a ≤ f b) → (from last : ℕ) → batch_end f from last ≡ walk f from (min generation_limit (last - from))
batch-walk f rises from last = walks f rises from (min generation_limit (last - from))

-- the walk stands at a generation, with so many left
abbrev pub IsAt : (ℕ → ℕ) → ℕ → ℕ → ℕ → Type 0
IsAt f from last to = walk f to (min generation_limit (last - from) - (to - from)) ≡ batch_end f from last

pub walk-begins : (f : ℕ → ℕ) → ((a b : ℕ) → a ≤ b → f a ≤ f b) → (from last : ℕ) → IsAt f from last from
walk-begins f rises from last =
    let all : min generation_limit (last - from) - (from - from) ≡ min generation_limit (last - from) = omega arith in
    ap (walk f from) all ∙ sym (batch-walk f rises from last)

left-over : (from last to : ℕ) → from ≤ to → to < last → to - from < generation_limit → min generation_limit (last - from) - (to - from) ≡ suc (min generation_limit (last - from) - ((to + 1) - from))
left-over from last to up below few = omega (arith, up, below, few)

pub walk-goes-on : (f : ℕ → ℕ) (from last to : ℕ) → from ≤ to → to < last → to - from < generation_limit → f (to + 1) ≤ item_limit → IsAt f from last to → IsAt f from last (to + 1)
walk-goes-on f from last to up below few fit at =
    let fits : nat_le (f (to + 1)) item_limit ≡ true = grind (arith, nat_tests, fit) in
    let n : ℕ = min generation_limit (last - from) - ((to + 1) - from) in
    let step : walk f to (suc n) ≡ walk f (to + 1) n = ap (λ (b : Bool). (let end : ℕ = cond b (walk f (to + 1) n) to in end)) fits in
    sym step ∙ ap (walk f to) (sym (left-over from last to up below few)) ∙ at

pub walk-stops : (f : ℕ → ℕ) (from last to : ℕ) → from ≤ to → to < last → to - from < generation_limit → item_limit < f (to + 1) → IsAt f from last to → to ≡ batch_end f from last
walk-stops f from last to up below few many at =
    let over : nat_le (f (to + 1)) item_limit ≡ false = grind (arith, nat_tests, many) in
    let n : ℕ = min generation_limit (last - from) - ((to + 1) - from) in
    let step : walk f to (suc n) ≡ to = ap (λ (b : Bool). (let end : ℕ = cond b (walk f (to + 1) n) to in end)) over in
    sym step ∙ ap (walk f to) (sym (left-over from last to up below few)) ∙ at

not-below : (a b : ℕ) → nat_lt a b ≡ false → b ≤ a
not-below a b test = grind (arith, nat_tests, test)

is-below : (a b : ℕ) → nat_lt a b ≡ true → a < b
is-below a b test = grind (arith, nat_tests, test)

none-left : (from last to : ℕ) (less few : Bool) → nat_lt to last ≡ less → nat_lt (to - from) generation_limit ≡ few → (to < last → to - from < generation_limit → ⊥) → from ≤ to → min generation_limit (last - from) - (to - from) ≡ 0
none-left from last to false few less_is few_is end up = omega (arith, not-below to last less_is)
none-left from last to true false less_is few_is end up = omega (arith, not-below (to - from) generation_limit few_is)
none-left from last to true true less_is few_is end up = absurd (end (is-below to last less_is) (is-below (to - from) generation_limit few_is))

pub walk-ends : (f : ℕ → ℕ) (from last to : ℕ) → (to < last → to - from < generation_limit → ⊥) → from ≤ to → IsAt f from last to → to ≡ batch_end f from last
walk-ends f from last to end up at = ap (walk f to) (sym (none-left from last to (nat_lt to last) (nat_lt (to - from) generation_limit) refl refl end up)) ∙ at

-- The batch of a site: its end, and its rows.

pub record Batching (rows : List (RowKey × SubscriberRow)) (from last to : ℕ) (keys : List RowKey) : Type 0 where
  pub up : from ≤ to
  pub at : IsAt (changed_count rows from) from last to
  pub rows_are : AreChanged rows from to keys

pub batch_begins : (rows : List (RowKey × SubscriberRow)) (from last : ℕ) (keys : List RowKey) → AreChanged rows from from keys → Batching rows from last from keys
batch_begins rows from last keys changed = record { up = omega arith; at = walk-begins (changed_count rows from) (count-rises rows from) from last; rows_are = changed }

pub batch_goes_on : (rows : List (RowKey × SubscriberRow)) (from last to : ℕ) (keys more : List RowKey) → Batching rows from last to keys → to < last → to - from < generation_limit → AreChanged rows from (to + 1) more → length more ≤ item_limit
    → Batching rows from last (to + 1) more
batch_goes_on rows from last to keys more batch below few changed fit = record {
  up = omega (arith, batch.up);
  at = walk-goes-on (changed_count rows from) from last to batch.up below few (omega (arith, fit, sent-count rows from (to + 1) more changed)) batch.at;
  rows_are = changed;
}

pub batch_stops : (rows : List (RowKey × SubscriberRow)) (from last to : ℕ) (keys more : List RowKey) → Batching rows from last to keys → to < last → to - from < generation_limit → AreChanged rows from (to + 1) more → item_limit < length more
    → to ≡ batch_end (changed_count rows from) from last
batch_stops rows from last to keys more batch below few changed many =
    walk-stops (changed_count rows from) from last to batch.up below few (omega (arith, many, sent-count rows from (to + 1) more changed)) batch.at

pub batch_ends : (rows : List (RowKey × SubscriberRow)) (from last to : ℕ) (keys : List RowKey) → Batching rows from last to keys → (to < last → to - from < generation_limit → ⊥) → to ≡ batch_end (changed_count rows from) from last
batch_ends rows from last to keys batch end = walk-ends (changed_count rows from) from last to end batch.up batch.at
