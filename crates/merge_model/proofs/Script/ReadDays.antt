-- A date is read as its day, and nothing else is read as a day.
use Rattle.std.proofs.Common.{◌≡◌, ℕ, ◌+◌, ◌*◌, ◌<◌, ◌≤◌, inl, inr, ℤ, pos, negsuc, List, true, false, Some, refl, sym, ap, subst, ◌∙◌, arith, nat_lt}
use Rattle.std.proofs.lemmas.Bool.{cases_lt}
use Rattle.std.proofs.lemmas.Bool.Decides.{nat_tests}
use Rattle.jiff_core.specs.Calendar.{day_count}
use Rattle.jiff_core.proofs.CalendarLemmas.{days_from_civil-day_count, days_in_month_bounds}
use Rattle.jiff_core.proofs.MarchLemmas.{day_count-late, day_count-early}
use Rattle.jiff_core.proofs.SignedLemmas.{signed_arith}
use Rattle.merge_types.specs.Day.{IsDay, IsDateOf, IsDayText, date_text, day_text, year_of, month_of, date_of}
use Rattle.merge_types.proofs.Days.{date_is, date_only, date_within}
use Rattle.merge_types.proofs.Printed.{IsDayText-day_text}
use Rattle.merge_model.specs.Script.Literals.{is_day, days_to, day_number, day_printed_as, day_written, day_of_text, two_at}
use Rattle.merge_model.proofs.Script.ReadLiterals.{both, same_test, same_text, some_if-is, some_if-true}

is_day-IsDay : (z : ℤ) → is_day z ≡ true → IsDay z
is_day-IsDay (pos n) e = let most : n ≤ 2_932_896 = grind (arith, nat_tests, e) in omega (arith, signed_arith, most)
is_day-IsDay (negsuc n) e = let most : n < 719_162 = grind (arith, nat_tests, e) in omega (arith, signed_arith, most)

is_day-true : (z : ℤ) → IsDay z → is_day z ≡ true
is_day-true (pos n) is = let most : n ≤ 2_932_896 = omega (arith, signed_arith, is) in grind (arith, nat_tests, most)
is_day-true (negsuc n) is = let most : n < 719_162 = omega (arith, signed_arith, is) in grind (arith, nat_tests, most)

early_test : (month : ℕ) → month < 3 → nat_lt month 3 ≡ true
early_test month h = grind (arith, nat_tests)

late_test : (month : ℕ) → 3 ≤ month → nat_lt month 3 ≡ false
late_test month h = grind (arith, nat_tests)

-- the days to a date, in the calendar's words
days_to-day_count : (year month date : ℕ) (day : ℤ) → IsDateOf year month date day → day_count (pos year) month date ≡ days_to year month date
days_to-day_count year month date day is =
    elim (cases_lt month 3) [
      | inl early ↦ rw (early_test month early) (day_count-early (pos year) (year + 9999) month date (omega (arith, signed_arith, is.from_one)) (omega (arith, signed_arith, is.exists.1)) (omega arith) (omega (arith, signed_arith, is.exists.2)))
      | inr late ↦ rw (late_test month late) (day_count-late (pos year) (year + 10000) month date (omega (arith, signed_arith)) late (omega (arith, signed_arith, is.exists.1)) (omega (arith, signed_arith, is.exists.2)))
    ]

day_number-is : (year month date : ℕ) (day : ℤ) → IsDateOf year month date day → day_number year month date ≡ day
day_number-is year month date day is =
    let count = days_to-day_count year month date day is in
    let number = days_from_civil-day_count (pos year) month date in
    omega (arith, signed_arith, count, number, is.same)

-- the days of the years 1 to 9999
days_to-bounds : (year month date : ℕ) (day : ℤ) → IsDateOf year month date day → (3_652_791 ≤ days_to year month date) × (days_to year month date ≤ 7_304_849)
days_to-bounds year month date day is =
    let within = date_within year month date day is in
    let most : date ≤ 31 = omega (arith, signed_arith, is.exists.2, days_in_month_bounds (pos year) month) in
    let least : 1 ≤ date = omega (arith, signed_arith, is.exists.2) in
    let first : 1 ≤ month = omega (arith, signed_arith, is.exists.1) in
    let last : month ≤ 12 = omega (arith, signed_arith, is.exists.1) in
    elim (cases_lt month 3) [
      | inl early ↦ rw (early_test month early) (omega (arith, is.from_one, within.0, most, least, first), omega (arith, is.from_one, within.0, most, least, first))
      | inr late ↦ rw (late_test month late) (omega (arith, is.from_one, within.0, most, least, last), omega (arith, is.from_one, within.0, most, least, last))
    ]

IsDateOf-IsDay : (year month date : ℕ) (day : ℤ) → IsDateOf year month date day → IsDay day
IsDateOf-IsDay year month date day is =
    let bounds = days_to-bounds year month date day is in
    let number = day_number-is year month date day is in
    omega (arith, signed_arith, bounds.0, bounds.1, number)

-- the places of a date's text
day_written-date_text : (year month date : ℕ) → year < 10000 → month < 100 → date < 100 → day_written (date_text year month date) ≡ day_number year month date
day_written-date_text year month date ly lm ld =
    let y : two_at 0 (date_text year month date) * 100 + two_at 2 (date_text year month date) ≡ year = omega arith in
    let m : two_at 5 (date_text year month date) ≡ month = omega arith in
    let d : two_at 8 (date_text year month date) ≡ date = omega arith in
    parts _ _ _ _ _ _ y m d
  where
    parts : (a b c a' b' c' : ℕ) → a ≡ a' → b ≡ b' → c ≡ c' → day_number a b c ≡ day_number a' b' c'
    parts a b c a' b' c' e f g = rw (e, f, g) refl

date_text-day_text : (year month date : ℕ) (day : ℤ) → IsDateOf year month date day → date_text year month date ≡ day_text day
unfolding day_text
date_text-day_text year month date day is =
    let parts = date_only year month date (year_of day) (month_of day) (date_of day) day is (date_is day (IsDateOf-IsDay year month date day is)) in
    texts _ _ _ _ _ _ parts.0 parts.1 parts.2
  where
    texts : (a b c a' b' c' : ℕ) → a ≡ a' → b ≡ b' → c ≡ c' → date_text a b c ≡ date_text a' b' c'
    texts a b c a' b' c' e f g = rw (e, f, g) refl

pub day_of_text-IsDayText : (text : List ℕ) (day : ℤ) → day_of_text text ≡ Some day → IsDayText text day
day_of_text-IsDayText text day e =
    let h = some_if-is _ (day_written text) day e in
    let tests = both (is_day (day_written text)) _ h.0 in
    subst (IsDayText text) h.1
    (subst (λ (t : List ℕ). IsDayText t (day_written text)) (sym (same_text text _ tests.1)) (IsDayText-day_text (day_written text) (is_day-IsDay _ tests.0)))

pub IsDayText-day_of_text : (text : List ℕ) (day : ℤ) → IsDayText text day → day_of_text text ≡ Some day
IsDayText-day_of_text text day is =
    let within = date_within is.year is.month is.date day is.is_date in
    let written : day_written text ≡ day =
    ap day_written is.spelled ∙ day_written-date_text is.year is.month is.date within.0 within.1 within.2 ∙ day_number-is is.year is.month is.date day is.is_date in
    let as_printed : text ≡ day_text day = is.spelled ∙ date_text-day_text is.year is.month is.date day is.is_date in
    ap (day_printed_as text) written
    ∙ some_if-true _ day (rw (is_day-true day (IsDateOf-IsDay is.year is.month is.date day is.is_date), same_test text (day_text day) as_printed) refl)
