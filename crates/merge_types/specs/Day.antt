-- Days, counted from 1970-01-01, and their dates in the Gregorian calendar.
use Rattle.std.specs.Prelude.{◌≡◌, Bool, ◌&&◌, int_le, ℕ, ◌+◌, ◌-◌, ◌*◌, ◌/◌, ◌%◌, ◌≤◌, nat_lt, if◌then◌else◌, ℤ, pos, ◌+ℤ◌, unsigned_abs, List, [], ◌∷◌, ◌++◌}
use Rattle.jiff_core.specs.Calendar.{IsBetween, IsDate, days_from_civil}
use Rattle.merge_types.specs.Limits.{first_day, last_day}

-- a day from 0001-01-01 to 9999-12-31
abbrev pub IsDay : ℤ → Type 0
IsDay day = IsBetween first_day last_day day

-- the same as a test
abbrev pub is_day : ℤ → Bool
is_day day = int_le first_day day && int_le day last_day

-- the calendar has this date, in a year from 1 on, and the day is its number
pub record IsDateOf (year month date : ℕ) (day : ℤ) : Type 0 where
  pub from_one : 1 ≤ year
  pub exists : IsDate (pos year) (pos month) (pos date)
  pub same : day ≡ days_from_civil (pos year) month date

-- The date of a day, after Neri and Schneider, "Euclidean affine functions and their application to
-- calendar algorithms". Years begin on 1 March here, so that a leap day comes last.

-- the days since 1 March of the year 0
unfoldable pub march_days_of : ℤ → ℕ
march_days_of day = unsigned_abs (day +ℤ pos 719_468)

-- four times the days since the century began, and 3
unfoldable pub quarters_of : ℕ → ℕ
quarters_of days = (4 * days + 3) % 146_097 / 4 * 4 + 3

-- the year that began in March
unfoldable pub march_year_of : ℕ → ℕ
march_year_of days = 100 * ((4 * days + 3) / 146_097) + quarters_of days / 1461

-- the days since that year began
unfoldable pub since_march : ℕ → ℕ
since_march days = quarters_of days % 1461 / 4

-- the month, from 3 for March to 14 for February
unfoldable pub march_month_of : ℕ → ℕ
march_month_of days = (5 * since_march days + 461) / 153

-- January and February are the first months of the next year
unfoldable pub year_of : ℤ → ℕ
year_of day =
    if nat_lt 12 (march_month_of (march_days_of day)) then march_year_of (march_days_of day) + 1
    else march_year_of (march_days_of day)

unfoldable pub month_of : ℤ → ℕ
month_of day =
    if nat_lt 12 (march_month_of (march_days_of day)) then march_month_of (march_days_of day) - 12
    else march_month_of (march_days_of day)

-- the day of the month
unfoldable pub date_of : ℤ → ℕ
date_of day = (5 * since_march (march_days_of day) + 461) % 153 / 5 + 1

-- a number below 100 as two digits, and one below 10000 as four
abbrev pub two_digits : ℕ → List ℕ
two_digits n = (48 + n / 10) ∷ (48 + n % 10) ∷ []

abbrev pub four_digits : ℕ → List ℕ
four_digits n = two_digits (n / 100) ++ two_digits (n % 100)

-- a date as YYYY-MM-DD
abbrev pub date_text : ℕ → ℕ → ℕ → List ℕ
date_text year month date = four_digits year ++ (45 ∷ (two_digits month ++ (45 ∷ two_digits date)))

-- a day as its date
unfoldable pub day_text : ℤ → List ℕ
day_text day = date_text (year_of day) (month_of day) (date_of day)

-- the text is the date with this number
pub record IsDayText (text : List ℕ) (day : ℤ) : Type 0 where
  pub year : ℕ
  pub month : ℕ
  pub date : ℕ
  pub spelled : text ≡ date_text year month date
  pub is_date : IsDateOf year month date day
