-- The day that a text writes as YYYY-MM-DD. What a text could mean is made out first, and counts where it is written so.
use Rattle.std.specs.Prelude.{ℕ, ◌+◌, ◌-◌, ◌*◌, ℤ, pos, List, slice_index, ◌&&◌, Option, Some, None, if◌then◌else◌, bytes_eq}
use Rattle.jiff_core.specs.Calendar.{days_from_civil}
use Rattle.merge_types.specs.Day.{is_day, day_text}

-- the number that the two bytes from a place on write
abbrev pub two_at : ℕ → List ℕ → ℕ
two_at place text = (slice_index text place - 48) * 10 + (slice_index text (place + 1) - 48)

unfoldable pub day_written : List ℕ → ℤ
day_written text = days_from_civil (pos (two_at 0 text * 100 + two_at 2 text)) (two_at 5 text) (two_at 8 text)

abbrev pub day_printed_as : List ℕ → ℤ → Option ℤ
day_printed_as text day = if is_day day && bytes_eq text (day_text day) then Some day else None

unfoldable pub day_of : List ℕ → Option ℤ
day_of text = day_printed_as text (day_written text)
