-- What the types of values give: numbers have their range, and texts are UTF-8. Each value at hand is of its type.
use Rattle.std.specs.Prelude.{Bool, List, [], int_le, nat_lt, negsuc, pos, true, ℤ, ◌&&◌, ◌^◌, ◌∷◌}
use Rattle.std.specs.Str.{is_utf8}
use Rattle.merge_types.specs.declared.Value.{Value}
use Rattle.merge_types.specs.declared.Value.TheVariants.{Day, Guid, Int, Text}

-- whether an i64 can hold it
abbrev pub is_i64 : ℤ → Bool
is_i64 number = int_le (negsuc 9223372036854775807) number && int_le number (pos 9223372036854775807)

abbrev pub is_i32 : ℤ → Bool
is_i32 number = int_le (negsuc 2147483647) number && int_le number (pos 2147483647)

-- how long a text is, and whether the calendar has a day, is a matter of rules
abbrev pub is_typed : Value → Bool
is_typed (Int number) = is_i64 number
is_typed (Text text) = is_utf8 text
is_typed (Day day) = is_i32 day
is_typed (Guid guid) = nat_lt guid (2 ^ 128)
is_typed value = true

abbrev pub are_typed : List Value → Bool
are_typed [] = true
are_typed (value ∷ values) = is_typed value && are_typed values
