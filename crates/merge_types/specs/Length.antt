-- The bytes that values take where they are stored.
use Rattle.std.specs.Prelude.{ℕ, ◌+◌, List, length, sum_by}
use Rattle.merge_types.specs.declared.values.Value.{Value}
use Rattle.merge_types.specs.declared.values.Value.TheVariants.{Null, Int, Bit, Text, Day, Guid, Bytes}

-- a tag, and the value; a text or bytes have two bytes of length before them
abbrev pub stored_length : Value → ℕ
stored_length Null = 1
stored_length (Int number) = 9
stored_length (Bit bit) = 2
stored_length (Text bytes) = 3 + length bytes
stored_length (Day day) = 5
stored_length (Guid number) = 17
stored_length (Bytes bytes) = 3 + length bytes

-- the same, with each Null counted as 0
abbrev pub weight : Value → ℕ
weight Null = 0
weight value = stored_length value

-- of all values of a row
abbrev pub row_length : List Value → ℕ
row_length values = sum_by stored_length values

abbrev pub row_weight : List Value → ℕ
row_weight values = sum_by weight values
