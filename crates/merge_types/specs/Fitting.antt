-- Whether values fit columns.
use Rattle.std.specs.Prelude.{ℕ, nat_le, ◌&&◌, Bool, true, false, length}
use Rattle.merge_types.specs.declared.values.ColumnType.{ColumnType}
use Rattle.merge_types.specs.declared.values.ColumnType.TheVariants as column
use Rattle.merge_types.specs.declared.values.Value.{Value}
use Rattle.merge_types.specs.declared.values.Value.TheVariants.{Null, Int, Bit, Text, Day, Guid, Bytes}
use Rattle.merge_types.specs.Day.{is_day}
use Rattle.merge_types.specs.Limits.{value_limit}

-- a Null, or a value of the column's type
unfoldable pub has_type : ColumnType → Value → Bool
has_type ty Null = true
has_type column.Int (Int number) = true
has_type column.Bit (Bit bit) = true
has_type column.Text (Text text) = true
has_type column.Day (Day day) = true
has_type column.Guid (Guid guid) = true
has_type column.Bytes (Bytes bytes) = true
has_type _ _ = false

-- the bytes of a text, or of bytes; values of other types have none
abbrev pub content_length : Value → ℕ
content_length (Text bytes) = length bytes
content_length (Bytes bytes) = length bytes
content_length value = 0

abbrev pub is_short : Value → Bool
is_short value = nat_le (content_length value) value_limit

-- a day lies in the years 0001 to 9999
abbrev pub is_proper : Value → Bool
is_proper (Day day) = is_day day
is_proper value = true

-- a column of the type may hold the value
abbrev pub fits_column : ColumnType → Value → Bool
fits_column ty value = has_type ty value && (is_short value && is_proper value)
