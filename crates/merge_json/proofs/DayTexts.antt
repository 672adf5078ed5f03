-- A date is read as its day, and nothing else is read as a day.
use Rattle.std.proofs.Common.{◌≡◌, ℕ, ◌+◌, ◌*◌, ◌<◌, ◌≤◌, inl, inr, ℤ, pos, negsuc, List, Bool, true, false, cond, ◌&&◌, Some, None, refl, sym, ap, subst, ◌∙◌, arith}
use Rattle.std.specs.Prelude.{bytes_eq}
use Rattle.std.proofs.lemmas.Bool.{cases_lt}
use Rattle.std.proofs.lemmas.Bool.Decides.{nat_tests}
use Rattle.std.proofs.lemmas.Slice.Eq.{bytes_eq-Decides}
use Rattle.jiff_core.specs.Calendar.{day_count, days_from_civil}
use Rattle.jiff_core.proofs.CalendarLemmas.{days_from_civil-day_count, days_in_month_bounds}
use Rattle.jiff_core.proofs.MarchLemmas.{day_count-late, day_count-early}
use Rattle.jiff_core.proofs.SignedLemmas.{signed_arith}
use Rattle.merge_types.specs.Day.{IsDay, IsDateOf, IsDayText, is_day, date_text, day_text, year_of, month_of, date_of}
use Rattle.merge_types.proofs.Days.{date_is, date_only, date_within}
use Rattle.merge_types.proofs.Printed.{IsDayText-day_text}
use Rattle.merge_json.specs.Days.{two_at, day_written, day_printed_as, day_of}

is_day-IsDay : (z : ℤ) → is_day z ≡ true → IsDay z
is_day-IsDay (pos n) e = let most : n ≤ 2_932_896 = grind (arith, nat_tests, e) in omega (arith, signed_arith, most)
is_day-IsDay (negsuc n) e = let most : n < 719_162 = grind (arith, nat_tests, e) in omega (arith, signed_arith, most)

is_day-true : (z : ℤ) → IsDay z → is_day z ≡ true
is_day-true (pos n) is = let most : n ≤ 2_932_896 = omega (arith, signed_arith, is) in grind (arith, nat_tests, most)
is_day-true (negsuc n) is = let most : n < 719_162 = omega (arith, signed_arith, is) in grind (arith, nat_tests, most)

-- the days to a date of the years 1 to 9999
count_bounds : (year month date : ℕ) (day : ℤ) → IsDateOf year month date day → (3_652_791 ≤ day_count (pos year) month date) × (day_count (pos year) month date ≤ 7_304_849)
count_bounds year month date day is =
    let within = date_within year month date day is in
    let most : date ≤ 31 = omega (arith, signed_arith, is.exists.2, days_in_month_bounds (pos year) month) in
    let least : 1 ≤ date = omega (arith, signed_arith, is.exists.2) in
    let first : 1 ≤ month = omega (arith, signed_arith, is.exists.1) in
    let last : month ≤ 12 = omega (arith, signed_arith, is.exists.1) in
    elim (cases_lt month 3) [
      | inl early ↦
          let count = day_count-early (pos year) (year + 9999) month date (omega (arith, signed_arith, is.from_one)) (omega (arith, signed_arith, is.exists.1)) (omega arith) (omega (arith, signed_arith, is.exists.2)) in
          rw count (omega (arith, is.from_one, within.0, most, least, first), omega (arith, is.from_one, within.0, most, least, first))
      | inr late ↦
          let count = day_count-late (pos year) (year + 10000) month date (omega (arith, signed_arith)) late (omega (arith, signed_arith, is.exists.1)) (omega (arith, signed_arith, is.exists.2)) in
          rw count (omega (arith, is.from_one, within.0, most, least, last), omega (arith, is.from_one, within.0, most, least, last))
    ]

IsDateOf-IsDay : (year month date : ℕ) (day : ℤ) → IsDateOf year month date day → IsDay day
IsDateOf-IsDay year month date day is =
    let bounds = count_bounds year month date day is in
    let number = days_from_civil-day_count (pos year) month date in
    omega (arith, signed_arith, bounds.0, bounds.1, number, is.same)

-- the places of a date's text
day_written-date_text : (year month date : ℕ) → year < 10000 → month < 100 → date < 100 → day_written (date_text year month date) ≡ days_from_civil (pos year) month date
unfolding day_written
day_written-date_text year month date ly lm ld =
    let y : two_at 0 (date_text year month date) * 100 + two_at 2 (date_text year month date) ≡ year = omega arith in
    let m : two_at 5 (date_text year month date) ≡ month = omega arith in
    let d : two_at 8 (date_text year month date) ≡ date = omega arith in
    parts _ _ _ _ _ _ y m d
  where
    parts : (a b c a' b' c' : ℕ) → a ≡ a' → b ≡ b' → c ≡ c' → days_from_civil (pos a) b c ≡ days_from_civil (pos a') b' c'
    parts a b c a' b' c' e f g = rw (e, f, g) refl

date_text-day_text : (year month date : ℕ) (day : ℤ) → IsDateOf year month date day → date_text year month date ≡ day_text day
unfolding day_text
date_text-day_text year month date day is =
    let parts = date_only year month date (year_of day) (month_of day) (date_of day) day is (date_is day (IsDateOf-IsDay year month date day is)) in
    texts _ _ _ _ _ _ parts.0 parts.1 parts.2
  where
    texts : (a b c a' b' c' : ℕ) → a ≡ a' → b ≡ b' → c ≡ c' → date_text a b c ≡ date_text a' b' c'
    texts a b c a' b' c' e f g = rw (e, f, g) refl

-- a date is read as its day
pub day_is : (text : List ℕ) (day : ℤ) → IsDayText text day → day_of text ≡ Some day
unfolding day_of
day_is text day is =
    let within = date_within is.year is.month is.date day is.is_date in
    let written : day_written text ≡ day = ap day_written is.spelled ∙ day_written-date_text is.year is.month is.date within.0 within.1 within.2 ∙ sym is.is_date.same in
    let as_printed : text ≡ day_text day = is.spelled ∙ date_text-day_text is.year is.month is.date day is.is_date in
    ap (day_printed_as text) written
    ∙ rw (is_day-true day (IsDateOf-IsDay is.year is.month is.date day is.is_date), (bytes_eq-Decides text (day_text day)).1 as_printed) refl

both_true : (a b : Bool) → (a && b) ≡ true → (a ≡ true) × (b ≡ true)
both_true true b e = (refl, e)
both_true false b e = absurd cc

printed_is : (text : List ℕ) (day : ℤ) → (is_day day && bytes_eq text (day_text day)) ≡ true → IsDayText text day
printed_is text day e =
    let tests = both_true (is_day day) _ e in
    subst (λ (t : List ℕ). IsDayText t day) (sym ((bytes_eq-Decides text (day_text day)).0 tests.1)) (IsDayText-day_text day (is_day-IsDay day tests.0))

-- and where a text is of no day, none is read
pub no_day : (text : List ℕ) → ((day : ℤ) → IsDayText text day → ⊥) → day_of text ≡ None
unfolding day_of
no_day text none = by (is_day (day_written text) && bytes_eq text (day_text (day_written text))) refl
  where
    by : (b : Bool) → (is_day (day_written text) && bytes_eq text (day_text (day_written text))) ≡ b → cond b (Some (day_written text)) None ≡ None
    by true e = absurd (none (day_written text) (printed_is text (day_written text) e))
    by false e = refl

-- what is printed is read
pub day_again : (day : ℤ) → IsDay day → day_of (day_text day) ≡ Some day
day_again day is = day_is (day_text day) day (IsDayText-day_text day is)

-- what is read is a day of the calendar
pub day_proper : (text : List ℕ) (day : ℤ) → day_of text ≡ Some day → IsDay day
unfolding day_of
day_proper text day = by (is_day (day_written text) && bytes_eq text (day_text (day_written text))) refl
  where
    by : (b : Bool) → (is_day (day_written text) && bytes_eq text (day_text (day_written text))) ≡ b → cond b (Some (day_written text)) None ≡ Some day → IsDay day
    by true e f = let same : day_written text ≡ day = cc in subst IsDay same (is_day-IsDay (day_written text) (both_true (is_day (day_written text)) _ e).0)
    by false e f = absurd cc

pub day_only : (text : List ℕ) (day : ℤ) → day_of text ≡ Some day → IsDayText text day
unfolding day_of
day_only text day = by (is_day (day_written text) && bytes_eq text (day_text (day_written text))) refl
  where
    by : (b : Bool) → (is_day (day_written text) && bytes_eq text (day_text (day_written text))) ≡ b → cond b (Some (day_written text)) None ≡ Some day → IsDayText text day
    by true e f = let same : day_written text ≡ day = cc in subst (IsDayText text) same (printed_is text (day_written text) e)
    by false e f = absurd cc
