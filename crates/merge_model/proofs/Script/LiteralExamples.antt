-- Literals, read and printed.
use Rattle.std.proofs.Common.{◌≡◌, pos, negsuc, [], ◌∷◌, Some, None, true, false, refl}
use Rattle.std.specs.Prelude.{codes}
use Rattle.merge_types.specs.declared.values.Value.TheVariants.{Null, Int, Bit, Text, Day, Guid, Bytes}
use Rattle.merge_types.specs.Literal.{printed}
use Rattle.merge_types.specs.Rows.{row_number}
use Rattle.merge_model.specs.Script.Literals.{opened, value_of_text, row_of_text}

value_null : value_of_text (codes "null") ≡ Some Null
unfolding opened
value_null = refl

value_zero : value_of_text (codes "0") ≡ Some (Int (pos 0))
unfolding opened
value_zero = refl

value_int : value_of_text (codes "42") ≡ Some (Int (pos 42))
unfolding opened
value_int = refl

value_negative : value_of_text (codes "-7") ≡ Some (Int (negsuc 6))
unfolding opened
value_negative = refl

value_greatest : value_of_text (codes "9223372036854775807") ≡ Some (Int (pos 9223372036854775807))
unfolding opened
value_greatest = refl

value_least : value_of_text (codes "-9223372036854775808") ≡ Some (Int (negsuc 9223372036854775807))
unfolding opened
value_least = refl

value_too_great : value_of_text (codes "9223372036854775808") ≡ None
unfolding opened
value_too_great = refl

value_too_small : value_of_text (codes "-9223372036854775809") ≡ None
unfolding opened
value_too_small = refl

value_leading_zero : value_of_text (codes "007") ≡ None
unfolding opened
value_leading_zero = refl

value_minus_zero : value_of_text (codes "-0") ≡ None
unfolding opened
value_minus_zero = refl

value_plus : value_of_text (codes "+1") ≡ None
unfolding opened
value_plus = refl

value_minus : value_of_text (codes "-") ≡ None
unfolding opened
value_minus = refl

value_empty : value_of_text (codes "") ≡ None
unfolding opened
value_empty = refl

value_yes : value_of_text (codes "true") ≡ Some (Bit true)
unfolding opened
value_yes = refl

value_no : value_of_text (codes "false") ≡ Some (Bit false)
unfolding opened
value_no = refl

value_upper_bit : value_of_text (codes "True") ≡ None
unfolding opened
value_upper_bit = refl

value_text : value_of_text (codes "\"x\\\"y\"") ≡ Some (Text (codes "x\"y"))
unfolding opened
value_text = refl

value_no_text : value_of_text (codes "\"\"") ≡ Some (Text [])
unfolding opened
value_no_text = refl

value_escapes : value_of_text (codes "\"\\n\\r\\t\\\\\"") ≡ Some (Text (10 ∷ 13 ∷ 9 ∷ 92 ∷ []))
unfolding opened
value_escapes = refl

value_unicode : value_of_text (codes "\"\\u00e9\\u20AC\"") ≡ Some (Text (195 ∷ 169 ∷ 226 ∷ 130 ∷ 172 ∷ []))
unfolding opened
value_unicode = refl

value_surrogate : value_of_text (codes "\"\\ud800\"") ≡ None
unfolding opened
value_surrogate = refl

value_short_unicode : value_of_text (codes "\"\\u12\"") ≡ None
unfolding opened
value_short_unicode = refl

value_other_escape : value_of_text (codes "\"\\a\"") ≡ None
unfolding opened
value_other_escape = refl

value_open_text : value_of_text (codes "\"a") ≡ None
unfolding opened
value_open_text = refl

value_only_quote : value_of_text (codes "\"") ≡ None
unfolding opened
value_only_quote = refl

value_quote_inside : value_of_text (codes "\"a\"b\"") ≡ None
unfolding opened
value_quote_inside = refl

value_escaped_end : value_of_text (codes "\"a\\\"") ≡ None
unfolding opened
value_escaped_end = refl

value_first_day : value_of_text (codes "1970-01-01") ≡ Some (Day (pos 0))
unfolding opened
value_first_day = refl

value_leap_day : value_of_text (codes "2024-02-29") ≡ Some (Day (pos 19782))
unfolding opened
value_leap_day = refl

value_year_one : value_of_text (codes "0001-01-01") ≡ Some (Day (negsuc 719161))
unfolding opened
value_year_one = refl

value_last_day : value_of_text (codes "9999-12-31") ≡ Some (Day (pos 2932896))
unfolding opened
value_last_day = refl

value_no_leap_day : value_of_text (codes "2023-02-29") ≡ None
unfolding opened
value_no_leap_day = refl

value_year_zero : value_of_text (codes "0000-01-01") ≡ None
unfolding opened
value_year_zero = refl

value_no_month : value_of_text (codes "2024-13-01") ≡ None
unfolding opened
value_no_month = refl

value_no_date : value_of_text (codes "2024-04-31") ≡ None
unfolding opened
value_no_date = refl

value_short_day : value_of_text (codes "2024-1-01") ≡ None
unfolding opened
value_short_day = refl

value_letters_day : value_of_text (codes "20x4-01-01") ≡ None
unfolding opened
value_letters_day = refl

value_guid : value_of_text (codes "00000000-0000-0000-0000-0000000000FF") ≡ Some (Guid 255)
unfolding opened
value_guid = refl

value_guid_lower : value_of_text (codes "ffffffff-ffff-ffff-ffff-ffffffffffff") ≡ Some (Guid 340282366920938463463374607431768211455)
unfolding opened
value_guid_lower = refl

value_guid_short : value_of_text (codes "00000000-0000-0000-0000-0000000000F") ≡ None
unfolding opened
value_guid_short = refl

value_guid_plain : value_of_text (codes "000000000000000000000000000000FF") ≡ None
unfolding opened
value_guid_plain = refl

value_guid_letter : value_of_text (codes "0000000g-0000-0000-0000-0000000000FF") ≡ None
unfolding opened
value_guid_letter = refl

value_bytes : value_of_text (codes "x00Ff") ≡ Some (Bytes (0 ∷ 255 ∷ []))
unfolding opened
value_bytes = refl

value_no_bytes : value_of_text (codes "x") ≡ Some (Bytes [])
unfolding opened
value_no_bytes = refl

value_odd_bytes : value_of_text (codes "x0") ≡ None
unfolding opened
value_odd_bytes = refl

value_other_bytes : value_of_text (codes "x0g") ≡ None
unfolding opened
value_other_bytes = refl

value_word : value_of_text (codes "abc") ≡ None
unfolding opened
value_word = refl

value_bare_control : value_of_text (34 ∷ 31 ∷ 34 ∷ []) ≡ None
unfolding opened
value_bare_control = refl

value_bare_delete : value_of_text (34 ∷ 127 ∷ 34 ∷ []) ≡ Some (Text (127 ∷ []))
unfolding opened
value_bare_delete = refl

value_utf8 : value_of_text (34 ∷ 195 ∷ 169 ∷ 34 ∷ []) ≡ Some (Text (195 ∷ 169 ∷ []))
unfolding opened
value_utf8 = refl

value_no_utf8 : value_of_text (34 ∷ 255 ∷ 34 ∷ []) ≡ None
unfolding opened
value_no_utf8 = refl

printed_null : printed Null ≡ codes "null"
unfolding opened
printed_null = refl

printed_int : printed (Int (negsuc 6)) ≡ codes "-7"
unfolding opened
printed_int = refl

printed_bit : printed (Bit true) ≡ codes "true"
unfolding opened
printed_bit = refl

printed_text : printed (Text (codes "x\"y\\")) ≡ codes "\"x\\\"y\\\\\""
unfolding opened
printed_text = refl

printed_controls : printed (Text (10 ∷ 13 ∷ 9 ∷ 1 ∷ 31 ∷ 127 ∷ [])) ≡ codes "\"\\n\\r\\t\\u0001\\u001f\\u007f\""
unfolding opened
printed_controls = refl

printed_day : printed (Day (pos 19782)) ≡ codes "2024-02-29"
unfolding opened
printed_day = refl

printed_early_day : printed (Day (negsuc 719161)) ≡ codes "0001-01-01"
unfolding opened
printed_early_day = refl

printed_guid : printed (Guid 255) ≡ codes "00000000-0000-0000-0000-0000000000ff"
unfolding opened
printed_guid = refl

printed_bytes : printed (Bytes (0 ∷ 255 ∷ [])) ≡ codes "x00ff"
unfolding opened
printed_bytes = refl

row_dot : row_of_text (codes "0.1") ≡ Some (record { 0 = row_number 0 1 })
unfolding opened
row_dot = refl

row_far_dot : row_of_text (codes "65535.4611686018427387903") ≡ Some (record { 0 = row_number 65535 4611686018427387903 })
unfolding opened
row_far_dot = refl

row_row : row_of_text (codes "00000000-0001-8000-8000-000000000003") ≡ Some (record { 0 = row_number 1 3 })
unfolding opened
row_row = refl

row_upper_row : row_of_text (codes "00000000-00AB-8000-8000-000000000003") ≡ Some (record { 0 = row_number 171 3 })
unfolding opened
row_upper_row = refl

row_no_number : row_of_text (codes "0.0") ≡ None
unfolding opened
row_no_number = refl

row_leading : row_of_text (codes "0.01") ≡ None
unfolding opened
row_leading = refl

row_no_site : row_of_text (codes "65536.1") ≡ None
unfolding opened
row_no_site = refl

row_number_end : row_of_text (codes "0.4611686018427387904") ≡ None
unfolding opened
row_number_end = refl

row_no_point : row_of_text (codes "1") ≡ None
unfolding opened
row_no_point = refl

row_two_points : row_of_text (codes "0.1.2") ≡ None
unfolding opened
row_two_points = refl

row_other_version : row_of_text (codes "00000000-0001-4000-8000-000000000003") ≡ None
unfolding opened
row_other_version = refl

row_zero_row : row_of_text (codes "00000000-0001-8000-8000-000000000000") ≡ None
unfolding opened
row_zero_row = refl

row_row_word : row_of_text (codes "abc") ≡ None
unfolding opened
row_row_word = refl
