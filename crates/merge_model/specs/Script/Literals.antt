-- The values and the rows that texts name, as functions. A reader makes out what a text could mean, and tells it
-- where it has this text; so each is the relation that literals are stated by.
use Rattle.std.specs.Prelude.{◌≡◌, ◌↔◌, ℕ, zero, suc, ◌+◌, ◌-◌, ◌*◌, ◌/◌, ◌%◌, ◌^◌, ℤ, pos, negsuc, neg_ℤ, ◌-ℤ◌, List, [], ◌∷◌, ◌++◌, length, take, drop, map, slice_index, Bool, true, false, nat_lt, nat_le, nat_eq, ◌==◌, ◌&&◌, if◌then◌else◌, codes, Option, Some, None, option_map, option_and_then}
use Rattle.std.specs.Char.{to_ascii_lowercase, encode_utf8}
use Rattle.std.specs.Cmp.Lexicographic.{pointwise}
use Rattle.std.specs.Fmt.{digits, signed_decimal}
use Rattle.std.specs.Int.{w128, from_be_bytes}
use Rattle.std.specs.List.{before_first, after_first}
use Rattle.std.specs.Result.{result_ok}
use Rattle.std.specs.Str.{chars, is_utf8}
use Rattle.std.specs.Str.Parse.{digits_value}
use Rattle.hex.specs.Hex.{decode_of, decode_pairs, encode_with}
use Rattle.jiff_core.specs.March.{march_days, march_months}
use Rattle.uuid.specs.Text.{by_index, parsed}
use Rattle.merge_types.specs.declared.identifiers.RowId.{RowId}
use Rattle.merge_types.specs.declared.values.Value.{Value}
use Rattle.merge_types.specs.declared.values.Value.TheVariants.{Null, Int, Bit, Text, Day, Guid, Bytes}
pub use Rattle.merge_types.specs.Day.{is_day}
use Rattle.merge_types.specs.Day.{day_text, year_of, month_of, date_of, march_month_of, since_march, march_year_of, quarters_of, march_days_of}
use Rattle.merge_types.specs.Guid.{guid_text}
use Rattle.merge_types.specs.Limits.{number_limit}
use Rattle.merge_types.specs.Literal.{IsLiteral}
use Rattle.merge_types.specs.Quoted.{piece_at, escape_at, long_at, quoted}
use Rattle.merge_types.specs.Rows.{row_number, IsRowLiteral}
use Rattle.merge_script.specs.Names.{decimal_of}

abbrev pub same : List ℕ → List ℕ → Bool
same a b = pointwise nat_eq a b

-- what passes its test
abbrev pub some_if : {A : Type 0} → Bool → A → Option A
some_if true x = Some x
some_if false x = None

-- the first that there is
abbrev pub or_else : {A : Type 0} → Option A → (Unit {0} → Option A) → Option A
or_else (Some x) next = Some x
or_else None next = next tt

-- Null and both bits
abbrev pub value_of_word : List ℕ → Option Value
value_of_word text =
    or_else (some_if (same text (codes "null")) Null) λ _.
    or_else (some_if (same text (codes "true")) (Bit true)) λ _.
    some_if (same text (codes "false")) (Bit false)

-- 64 bits hold the number
abbrev pub fits_int : ℤ → Bool
fits_int (pos n) = nat_lt n (2 ^ 63)
fits_int (negsuc n) = nat_lt n (2 ^ 63)

-- the number that digits write, behind `-` or nothing
abbrev pub number_written : List ℕ → ℤ
number_written [] = pos 0
number_written (first ∷ rest) = if first == 45 then neg_ℤ (pos (digits_value 10 rest)) else pos (digits_value 10 (first ∷ rest))

abbrev pub int_printed_as : List ℕ → ℤ → Option ℤ
int_printed_as text number = some_if (fits_int number && same text (signed_decimal number)) number

abbrev pub int_of_text : List ℕ → Option ℤ
int_of_text text = int_printed_as text (number_written text)

-- the number that the two bytes from a place on write
abbrev pub two_at : ℕ → List ℕ → ℕ
two_at place text = (slice_index text place - 48) * 10 + (slice_index text (place + 1) - 48)

-- the days from 1 January of the year -10000 to a date, for years that begin on 1 March
abbrev pub days_to : ℕ → ℕ → ℕ → ℕ
days_to year month date =
    if nat_lt month 3 then march_days (year + 9999) + march_months (month + 12) + date + 59
    else march_days (year + 10000) + march_months month + date + 59

-- the day with this date, counted from 1970-01-01
abbrev pub day_number : ℕ → ℕ → ℕ → ℤ
day_number year month date = pos (days_to year month date) -ℤ pos 4_371_953

-- the day of a date that is written as YYYY-MM-DD
abbrev pub day_written : List ℕ → ℤ
day_written text = day_number (two_at 0 text * 100 + two_at 2 text) (two_at 5 text) (two_at 8 text)

abbrev pub day_printed_as : List ℕ → ℤ → Option ℤ
day_printed_as text day = some_if (is_day day && same text (day_text day)) day

abbrev pub day_of_text : List ℕ → Option ℤ
day_of_text text = day_printed_as text (day_written text)

abbrev pub guid_printed_as : List ℕ → ℕ → Option ℕ
guid_printed_as text number = some_if (nat_lt number (2 ^ 128) && same text (guid_text number)) number

-- the number of 36 characters in lower case
abbrev pub guid_of_lower : List ℕ → Option ℕ
guid_of_lower text = option_and_then (λ bytes. guid_printed_as text (from_be_bytes w128 bytes)) (parsed text)

abbrev pub guid_of_text : List ℕ → Option ℕ
guid_of_text text = guid_of_lower (map to_ascii_lowercase text)

-- the bytes behind the `x` of a literal
abbrev pub bytes_of_text : List ℕ → Option (List ℕ)
bytes_of_text [] = None
bytes_of_text (first ∷ digits) = if first == 120 then result_ok (decode_of digits) else None

-- a piece of a quoted text, and what those behind it mean
abbrev pub meant_before : Option (List ℕ × List ℕ) → (List ℕ → Option (List ℕ)) → Option (List ℕ)
meant_before None behind = None
meant_before (Some (bytes, rest)) behind = option_map (λ more. bytes ++ more) (behind rest)

-- what the pieces of a text mean, which are at most so many
abbrev pub pieces_mean : ℕ → List ℕ → Option (List ℕ)
pieces_mean count [] = Some []
pieces_mean zero (byte ∷ rest) = None
pieces_mean (suc count) (byte ∷ rest) = meant_before (piece_at (byte ∷ rest)) (λ behind. pieces_mean count behind)

-- what stands between the first and the last byte
abbrev pub inner_of : List ℕ → List ℕ
inner_of text = take (length text - 2) (drop 1 text)

abbrev pub utf8_only : List ℕ → Option (List ℕ)
utf8_only bytes = some_if (is_utf8 bytes) bytes

-- the text that is spelled between quotes
abbrev pub text_between : List ℕ → Option (List ℕ)
text_between inner = option_and_then utf8_only (pieces_mean (length inner) inner)

abbrev pub quoted_of_text : List ℕ → Option (List ℕ)
quoted_of_text text = option_and_then text_between (some_if (same text (34 ∷ (inner_of text ++ 34 ∷ []))) (inner_of text))

-- the value of a literal
abbrev pub value_of_text : List ℕ → Option Value
value_of_text text =
    or_else (value_of_word text) λ _.
    or_else (option_map (λ number. Int number) (int_of_text text)) λ _.
    or_else (option_map (λ day. Day day) (day_of_text text)) λ _.
    or_else (option_map (λ number. Guid number) (guid_of_text text)) λ _.
    or_else (option_map (λ bytes. Text bytes) (quoted_of_text text)) λ _.
    option_map (λ bytes. Bytes bytes) (bytes_of_text text)

-- a site makes the row by the change with this number
abbrev pub is_made_by : ℕ → ℕ → ℕ → Bool
is_made_by row site number = nat_lt site (2 ^ 16) && nat_le 1 number && nat_lt number number_limit && (row == row_number site number)

abbrev pub made_row : ℕ → ℕ → ℕ → Option RowId
made_row row site number = some_if (is_made_by row site number) (record { 0 = row })

-- the row of an identifier that a change makes
abbrev pub row_of_guid : ℕ → Option RowId
row_of_guid row = made_row row (row / 2 ^ 80) (row % 2 ^ 62)

abbrev pub row_of_dot : ℕ → ℕ → Option RowId
row_of_dot site number = made_row (row_number site number) site number

abbrev pub is_point : ℕ → Bool
is_point byte = byte == 46

-- the row of SITE.NUMBER
abbrev pub row_of_dot_text : List ℕ → Option RowId
row_of_dot_text text =
    option_and_then
    (λ site. option_and_then (λ number. row_of_dot site number) (decimal_of (after_first is_point text)))
    (decimal_of (before_first is_point text))

-- the row that a text names, by its 36 characters or by the change that makes it
abbrev pub row_of_text : List ℕ → Option RowId
row_of_text text = or_else (option_and_then row_of_guid (guid_of_text text)) λ _. row_of_dot_text text

-- a text is read as a value exactly where it is a literal of it
abbrev pub ReadsLiterals : Type 0
ReadsLiterals = (text : List ℕ) (value : Value) → (value_of_text text ≡ Some value) ↔ IsLiteral text value

-- a text is read as a row exactly where it names it
abbrev pub ReadsRows : Type 0
ReadsRows = (text : List ℕ) (row : RowId) → (row_of_text text ≡ Some row) ↔ IsRowLiteral text row.0

-- all that reading and printing of literals computes with
unfoldable pub opened : List ℕ
unfolding digits is_utf8 chars encode_utf8 by_index decode_pairs encode_with guid_text quoted piece_at escape_at long_at day_text year_of month_of date_of march_month_of since_march march_year_of quarters_of march_days_of
opened = []
