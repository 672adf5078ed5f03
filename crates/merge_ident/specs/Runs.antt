-- Lists of calls of `take` and `receive`, one after the other.
use Rattle.std.specs.Prelude.{◌≡◌, ℕ, ℤ, ◌+◌, ◌≤◌, List, [], ◌∷◌, ◌++◌, map, count_by, Result, Ok, Err}
use Rattle.std.specs.Ordering.{int_eq}
use Rattle.merge_ident.specs.declared.grants.Range.{Range}
use Rattle.merge_ident.specs.declared.ranges.IdentityUsedUp.{IdentityUsedUp}
use Rattle.merge_ident.specs.declared.ranges.RangeEvent.{RangeEvent}
use Rattle.merge_ident.specs.declared.ranges.RangeEvent.TheVariants.{Take, Receive}
use Rattle.merge_ident.specs.Grants.{is_in}
use Rattle.merge_ident.specs.Holders.{Holder, range_of, answer_to_take, after_take, after_receive, HasValues}

-- what a call leaves, and what it answers
abbrev pub after_event : Holder → RangeEvent → Holder
after_event holder Take = after_take holder
after_event holder (Receive number range) = after_receive holder range

abbrev pub answer_to_event : Holder → RangeEvent → List (Result ℤ IdentityUsedUp)
answer_to_event holder Take = answer_to_take holder ∷ []
answer_to_event holder (Receive number range) = []

abbrev pub after_all : Holder → List RangeEvent → Holder
after_all holder [] = holder
after_all holder (event ∷ events) = after_all (after_event holder event) events

abbrev pub answers_to : Holder → List RangeEvent → List (Result ℤ IdentityUsedUp)
answers_to holder [] = []
answers_to holder (event ∷ events) = answer_to_event holder event ++ answers_to (after_event holder event) events

-- a range that is received has the next number and has values
abbrev pub EventFits : ℕ → RangeEvent → Type 0
EventFits have Take = Unit {0}
EventFits have (Receive number range) = (number ≡ have + 1) × HasValues range

abbrev pub have_after : ℕ → RangeEvent → ℕ
have_after have Take = have
have_after have (Receive number range) = have + 1

abbrev pub EventsFit : ℕ → List RangeEvent → Type 0
EventsFit have [] = Unit {0}
EventsFit have (event ∷ events) = EventFits have event × EventsFit (have_after have event) events

-- the values among answers
abbrev pub values_in : List (Result ℤ IdentityUsedUp) → List ℤ
values_in [] = []
values_in (Ok value ∷ answers) = value ∷ values_in answers
values_in (Err used_up ∷ answers) = values_in answers

-- the ranges that are received
abbrev pub received_in : List RangeEvent → List Range
received_in [] = []
received_in (Take ∷ events) = received_in events
received_in (Receive number range ∷ events) = range ∷ received_in events

-- the ranges from which values can be taken: those held at first, and those received since
abbrev pub ranges_of : Holder → List RangeEvent → List Range
ranges_of holder events = map range_of holder.held ++ received_in events

-- how often a value is taken, and how many ranges have it
abbrev pub times_taken : ℤ → Holder → List RangeEvent → ℕ
times_taken value holder events = count_by (int_eq value) (values_in (answers_to holder events))

abbrev pub times_received : ℤ → List Range → ℕ
times_received value ranges = count_by (is_in value) ranges

-- no value is in two ranges
abbrev pub AreApart : List Range → Type 0
AreApart ranges = (value : ℤ) → times_received value ranges ≤ 1
