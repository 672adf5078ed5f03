-- A value is taken at most as often as ranges with it were received.
use Rattle.std.proofs.Common.{◌≡◌, ℕ, ◌+◌, ◌<◌, ◌≤◌, Bool, true, false, cond, ◌&&◌, List, [], ◌∷◌, length, map, filter, count_by, ℤ, pos, negsuc, ◌+ℤ◌, ◌-ℤ◌, ◌<ℤ◌, ◌≤ℤ◌, int_le, Result, refl, arith}
use Rattle.std.specs.Ordering.{int_eq}
use Rattle.std.specs.List.{AllByRecursion}
use Rattle.std.proofs.lemmas.Int.{ints}
use Rattle.std.proofs.lemmas.Bool.Decides.{nat_tests}
use Rattle.std.proofs.lemmas.List.Sums.{sum_by-cons, sum_by-append, length-filter, count_by-le-length}
use Rattle.merge_ident.specs.declared.grants.Range.{Range}
use Rattle.merge_ident.specs.declared.ranges.IdentityUsedUp.{IdentityUsedUp}
use Rattle.merge_ident.specs.declared.ranges.RangeEvent.{RangeEvent}
use Rattle.merge_ident.specs.declared.ranges.RangeEvent.TheVariants.{Take, Receive}
use Rattle.merge_ident.specs.Grants.{natural, is_in}
use Rattle.merge_ident.specs.Holders.{Received, Holder, size_of, unused, next_of, has_values, used_once_more, range_of, answer_by_held, held_after_take, held_after_receive, after_take, after_receive, HasValues, AreHeld}
use Rattle.merge_ident.specs.Runs.{answers_to, values_in, received_in, ranges_of, times_taken, times_received, EventsFit}

-- whether a range still has this value
abbrev pub is_left : ℤ → Received → Bool
is_left value received = int_le (next_of received) value && int_le value received.range.end

-- how many of the ranges still have it
abbrev pub left_in : ℤ → List Received → ℕ
left_in value [] = 0
left_in value (received ∷ held) = cond (is_left value received) 1 0 + left_in value held

natural_gt : (n : ℕ) (z : ℤ) → n < natural z → pos n <ℤ z
natural_gt n (pos m) more = omega (arith, ints)
natural_gt n (negsuc m) more = absurd (omega arith)

natural_le : (n : ℕ) (z : ℤ) → natural z ≤ n → z ≤ℤ pos n
natural_le n (pos m) less = omega (arith, ints)
natural_le n (negsuc m) less = omega (arith, ints)

-- a range with values has its next one
pub next-has_values : (received : Received) → has_values received ≡ true → next_of received ≤ℤ received.range.end
next-has_values received some =
    let less : received.used < size_of received.range = grind (arith, nat_tests) in
    let fact = natural_gt received.used ((received.range.end +ℤ pos 1) -ℤ received.range.begin) less in
    omega (arith, ints, fact)

pub next-no_values : (received : Received) → has_values received ≡ false → received.range.end <ℤ next_of received
next-no_values received none =
    let more : size_of received.range ≤ received.used = grind (arith, nat_tests) in
    let fact = natural_le received.used ((received.range.end +ℤ pos 1) -ℤ received.range.begin) more in
    omega (arith, ints, fact)

-- the next value of a range with values is left, and then it is not
uses-by_tests : (next end value : ℤ) (n : ℤ) → n ≡ next +ℤ pos 1 → next ≤ℤ end
    → cond (int_eq value next) 1 0 + cond (int_le n value && int_le value end) 1 0 ≤ cond (int_le next value && int_le value end) 1 0
uses-by_tests next end value n is le = grind (arith, ints, nat_tests)

uses_next : (value : ℤ) (received : Received) → has_values received ≡ true → cond (int_eq value (next_of received)) 1 0 + cond (is_left value (used_once_more received)) 1 0 ≤ cond (is_left value received) 1 0
uses_next value received some =
    uses-by_tests (next_of received) received.range.end value (next_of (used_once_more received)) (omega (arith, ints)) (next-has_values received some)

-- a range with no values has none left
none_left : (value : ℤ) (received : Received) → has_values received ≡ false → is_left value received ≡ false
none_left value received none =
    let past = next-no_values received none in grind (arith, ints, nat_tests)

-- a range that was just received has all its values left
all_left : (value : ℤ) (range : Range) → is_left value (unused range) ≡ is_in value range
all_left value range = grind (arith, ints, nat_tests)

-- what is left is in the range
left_le : (value : ℤ) (received : Received) → cond (is_left value received) 1 0 ≤ cond (is_in value received.range) 1 0
left_le value received = grind (arith, ints, nat_tests)

-- a range without values takes nothing with it
left-by_test : (b : Bool) (value : ℤ) (received : Received) (held : List Received) → has_values received ≡ b → left_in value (filter has_values held) ≤ left_in value held
    → left_in value (cond b (received ∷ filter has_values held) (filter has_values held)) ≤ left_in value (received ∷ held)
left-by_test true value received held some rest = omega arith
left-by_test false value received held none rest = omega arith

left_in-filter : (value : ℤ) (held : List Received) → left_in value (filter has_values held) ≤ left_in value held
left_in-filter value [] = omega arith
left_in-filter value (received ∷ held) = left-by_test (has_values received) value received held refl (left_in-filter value held)

-- what a filter keeps has values
values-by_test : (b : Bool) (received : Received) (held : List Received) → has_values received ≡ b → AllByRecursion (λ r. has_values r ≡ true) (filter has_values held)
    → AllByRecursion (λ r. has_values r ≡ true) (cond b (received ∷ filter has_values held) (filter has_values held))
values-by_test true received held some rest = (some, rest)
values-by_test false received held none rest = rest

values-filter : (held : List Received) → AllByRecursion (λ r. has_values r ≡ true) (filter has_values held)
values-filter [] = tt
values-filter (received ∷ held) = values-by_test (has_values received) received held refl (values-filter held)

size-has_values : (range : Range) → HasValues range → 1 ≤ size_of range
size-has_values range some = positive ((range.end +ℤ pos 1) -ℤ range.begin) (omega (arith, ints))
  where
    positive : (z : ℤ) → pos 1 ≤ℤ z → 1 ≤ natural z
    positive (pos n) h = omega (arith, ints)
    positive (negsuc n) h = absurd (omega (arith, ints))

pub unused_has_values : (range : Range) → HasValues range → has_values (unused range) ≡ true
unused_has_values range some = grind (arith, nat_tests, size-has_values range some)

pub held-take : (held : List Received) → AreHeld held → AreHeld (held_after_take held)
held-take [] fit = fit
held-take (first ∷ rest) fit = record {
  two = omega (arith, fit.two, length-filter-le (used_once_more first ∷ rest));
  values = values-filter (used_once_more first ∷ rest);
}
  where
    length-filter-le : (xs : List Received) → length (filter has_values xs) ≤ length xs
    length-filter-le xs = omega (arith, length-filter has_values xs, count_by-le-length has_values xs)

pub held-receive : (held : List Received) (range : Range) → AreHeld held → HasValues range → AreHeld (held_after_receive held range)
held-receive [] range fit some = record { two = omega arith; values = (unused_has_values range some, tt) }
held-receive (a ∷ []) range fit some = record { two = omega arith; values = (fit.values.0, (unused_has_values range some, tt)) }
held-receive (a ∷ b ∷ []) range fit some = record { two = omega arith; values = (fit.values.1.0, (unused_has_values range some, tt)) }
held-receive (a ∷ b ∷ c ∷ held) range fit some = absurd (omega (arith, fit.two))

left-receive : (value : ℤ) (held : List Received) (range : Range) → AreHeld held → left_in value (held_after_receive held range) ≤ left_in value held + cond (is_in value range) 1 0
left-receive value [] range fit = rw (all_left value range) (omega arith)
left-receive value (a ∷ []) range fit = rw (all_left value range) (omega arith)
left-receive value (a ∷ b ∷ []) range fit = rw (all_left value range) (omega arith)
left-receive value (a ∷ b ∷ c ∷ held) range fit = absurd (omega (arith, fit.two))

-- one take, over a list of answers to what follows
take_step : (value last_end : ℤ) (held : List Received) (later : List (Result ℤ IdentityUsedUp)) (n : ℕ) → AreHeld held → count_by (int_eq value) (values_in later) ≤ left_in value (held_after_take held) + n
    → count_by (int_eq value) (values_in (answer_by_held last_end held ∷ later)) ≤ left_in value held + n
take_step value last_end [] later n fit rest = rest
take_step value last_end (first ∷ held) later n fit rest =
    let count = sum_by-cons (λ v. cond (int_eq value v) 1 0) (next_of first) (values_in later) in
    let uses = uses_next value first fit.values.0 in
    let kept = left_in-filter value (used_once_more first ∷ held) in
    omega (arith, count, uses, kept, rest)

taken_le : (events : List RangeEvent) (holder : Holder) (value : ℤ) → AreHeld holder.held → EventsFit holder.have events
    → times_taken value holder events ≤ left_in value holder.held + times_received value (received_in events)
taken_le [] holder value fit events_fit = omega arith
taken_le (Take ∷ events) holder value fit events_fit =
    take_step value holder.last_end holder.held (answers_to (after_take holder) events) (times_received value (received_in events)) fit (taken_le events (after_take holder) value (held-take holder.held fit) events_fit.1)
taken_le (Receive number range ∷ events) holder value fit events_fit =
    let rest = taken_le events (after_receive holder range) value (held-receive holder.held range fit events_fit.0.1) events_fit.1 in
    let count = sum_by-cons (λ r. cond (is_in value r) 1 0) range (received_in events) in
    omega (arith, rest, count, left-receive value holder.held range fit)

-- what is left is among what was received
left_in_ranges : (value : ℤ) (held : List Received) → left_in value held ≤ times_received value (map range_of held)
left_in_ranges value [] = omega arith
left_in_ranges value (received ∷ held) =
    omega (arith, left_in_ranges value held, left_le value received, sum_by-cons (λ r. cond (is_in value r) 1 0) received.range (map range_of held))

pub taken_at_most : (holder : Holder) (events : List RangeEvent) → AreHeld holder.held → EventsFit holder.have events → (value : ℤ) → times_taken value holder events ≤ times_received value (ranges_of holder events)
taken_at_most holder events fit events_fit value =
    let split = sum_by-append (λ r. cond (is_in value r) 1 0) (map range_of holder.held) (received_in events) in
    omega (arith, taken_le events holder value fit events_fit, left_in_ranges value holder.held, split)
