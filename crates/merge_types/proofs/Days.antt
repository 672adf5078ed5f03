-- The date of a day.
use Rattle.std.proofs.Common.{◌≡◌, ℕ, suc, ◌+◌, ◌-◌, ◌*◌, ◌/◌, ◌%◌, ◌<◌, ◌≤◌, inl, inr, ℤ, pos, ◌+ℤ◌, nat_lt, true, false, sym, ap, ◌∙◌, arith}
use Rattle.std.proofs.lemmas.Bool.{cases_lt}
use Rattle.std.proofs.lemmas.Bool.Decides.{nat_tests}
use Rattle.std.specs.Int.Signed.{pos-nat_abs}
use Rattle.jiff_core.specs.Date.{epoch_day}
use Rattle.jiff_core.specs.declared.civil.date.Date.{Date}
use Rattle.jiff_core.specs.March.{march_days}
use Rattle.jiff_core.proofs.CalendarLemmas.{days_from_civil-day_count, days_in_month_bounds}
use Rattle.jiff_core.proofs.DateLemmas.{epoch_day_injective}
use Rattle.jiff_core.proofs.MarchLemmas.{leap_day, march_days-suc, day_count-early, day_count-late, month_and_day, day_in_month, day_in_early_month}
use Rattle.jiff_core.proofs.SignedLemmas.{signed_arith}
use Rattle.merge_types.specs.Day.{IsDay, IsDateOf, march_days_of, quarters_of, march_year_of, since_march, march_month_of, year_of, month_of, date_of}

-- the year that began in March has the day, and the next has not
record InMarchYear (days : ℕ) : Type 0 where
  value : march_days (march_year_of days) + since_march days ≡ days
  within : days < march_days (march_year_of days + 1)
  bound : since_march days < 366

in_march_year : (days : ℕ) → days < 7_400_000 → InMarchYear days
unfolding march_year_of since_march quarters_of
in_march_year days h = record { value = omega arith; within = omega arith; bound = omega arith }

-- the days since March of the year 0, for a day that is proper
record SinceYear0 (day : ℤ) : Type 0 where
  value : pos (march_days_of day) ≡ day +ℤ pos 719_468
  low : 306 ≤ march_days_of day
  high : march_days_of day ≤ 3_652_364

since_year_0 : (day : ℤ) → IsDay day → SinceYear0 day
since_year_0 day h =
    let value : pos (march_days_of day) ≡ day +ℤ pos 719_468 = unfold march_days_of in pos-nat_abs (day +ℤ pos 719_468) (omega (arith, signed_arith)) in
    record { value = value; low = omega (arith, signed_arith); high = omega (arith, signed_arith) }

-- a date of the year whose March has the day
march_date : (day : ℤ) (y r : ℕ) → (5 * r + 461) / 153 ≤ 12 → r < 366 → march_days y + r ≡ march_days_of day → SinceYear0 day
    → IsDateOf y ((5 * r + 461) / 153) ((5 * r + 461) % 153 / 5 + 1) day
march_date day y r within bound sum since =
    let month = (5 * r + 461) / 153 in
    let date = (5 * r + 461) % 153 / 5 + 1 in
    let count = day_count-late (pos y) (y + 10000) month date (omega (arith, signed_arith)) (omega arith) within (omega arith) in
    let shift : march_days (y + 10000) ≡ march_days y + 3_652_425 = omega arith in
    let number = days_from_civil-day_count (pos y) month date in
    record {
      from_one = omega arith;
      exists = (omega (arith, signed_arith), omega (arith, signed_arith), omega (arith, signed_arith, day_in_month (pos y) r within));
      same = omega (arith, signed_arith, since.value, month_and_day r bound);
    }

-- a date of January or February, which lies in the next year
winter_date : (day : ℤ) (y r : ℕ) → 12 < (5 * r + 461) / 153 → r < 366 → march_days y + r ≡ march_days_of day → march_days_of day < march_days (y + 1) → SinceYear0 day
    → IsDateOf (y + 1) ((5 * r + 461) / 153 - 12) ((5 * r + 461) % 153 / 5 + 1) day
winter_date day y r beyond bound sum within since =
    let month = (5 * r + 461) / 153 - 12 in
    let date = (5 * r + 461) % 153 / 5 + 1 in
    let back : (5 * r + 461) / 153 - 12 + 12 ≡ (5 * r + 461) / 153 = omega arith in
    let count = day_count-early (pos (y + 1)) (y + 10000) month date (omega (arith, signed_arith)) (omega arith) (omega arith) (omega arith) in
    let shift : march_days (y + 10000) ≡ march_days y + 3_652_425 = omega arith in
    let number = days_from_civil-day_count (pos (y + 1)) month date in
    let after : suc y ≡ y + 1 = omega arith in
    let same_year : leap_day (pos (suc y)) ≡ leap_day (pos (y + 1)) = ap (λ (n : ℕ). leap_day (pos n)) after in
    let same_days : march_days (suc y) ≡ march_days (y + 1) = ap march_days after in
    let next : march_days (y + 1) ≡ march_days y + 365 + leap_day (pos (y + 1)) = omega (arith, march_days-suc y, same_year) in
    let in_month = day_in_early_month (pos (y + 1)) r beyond (omega arith) in
    record {
      from_one = omega arith;
      exists = (omega (arith, signed_arith), omega (arith, signed_arith), omega (arith, signed_arith, in_month));
      same = omega (arith, signed_arith, since.value, rw back at count, month_and_day r bound);
    }

march_test : (m : ℕ) → m ≤ 12 → nat_lt 12 m ≡ false
march_test m h = grind (arith, nat_tests)

winter_test : (m : ℕ) → 12 < m → nat_lt 12 m ≡ true
winter_test m h = grind (arith, nat_tests)

-- a proper day has the date that is computed of it
pub date_is : (day : ℤ) → IsDay day → IsDateOf (year_of day) (month_of day) (date_of day) day
unfolding year_of month_of date_of march_month_of
date_is day h =
    let since = since_year_0 day h in
    let days = march_days_of day in
    let year = in_march_year days (omega arith) in
    elim (cases_lt 12 ((5 * since_march days + 461) / 153)) [
      | inl beyond ↦ rw (winter_test ((5 * since_march days + 461) / 153) beyond) (winter_date day (march_year_of days) (since_march days) beyond year.bound year.value year.within since)
      | inr within ↦ rw (march_test ((5 * since_march days + 461) / 153) within) (march_date day (march_year_of days) (since_march days) within year.bound year.value since)
    ]

-- a date of the calendar as the library has it
abbrev date : (y m d : ℕ) (day : ℤ) → IsDateOf y m d day → Date
date y m d day is = record {
  year = pos y;
  month = m;
  day = d;
  year_in = is.exists.0;
  month_in = omega (arith, signed_arith, is.exists.1);
  day_in = omega (arith, signed_arith, is.exists.2);
}

-- a day has one date
pub date_only : (y m d y' m' d' : ℕ) (day : ℤ) → IsDateOf y m d day → IsDateOf y' m' d' day → (y ≡ y') × (m ≡ m') × (d ≡ d')
date_only y m d y' m' d' day is other =
    let same = epoch_day_injective (date y m d day is) (date y' m' d' day other) (sym is.same ∙ other.same) in
    let year : pos y ≡ pos y' = same.0 in
    (cc, same.1, same.2)

-- the library's date with this number is that date
pub date_of_library : (day : ℤ) (found : Date) → IsDay day → epoch_day found ≡ day
    → (found.year ≡ pos (year_of day)) × (found.month ≡ month_of day) × (found.day ≡ date_of day)
date_of_library day found h same =
    let is = date_is day h in
    epoch_day_injective found (date _ _ _ day is) (same ∙ is.same)

pub date_within : (y m d : ℕ) (day : ℤ) → IsDateOf y m d day → (y < 10000) × (m < 100) × (d < 100)
date_within y m d day is =
    (omega (arith, signed_arith, is.exists.0), omega (arith, signed_arith, is.exists.1), omega (arith, signed_arith, is.exists.2, days_in_month_bounds (pos y) m))
