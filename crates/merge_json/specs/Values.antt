-- Values of columns as they are read.
use Rattle.std.specs.Prelude.{◌==◌, ◌^◌, ◌&&◌, nat_lt, bytes_eq, ℕ, List, map, codes, Option, Some, None, Result, Ok, Err, if◌then◌else◌}
use Rattle.std.specs.Char.{to_ascii_lowercase}
use Rattle.std.specs.Int.{w128, from_be_bytes}
use Rattle.hex.specs.Hex.{decode_of}
use Rattle.hex.specs.declared.FromHexError.{FromHexError}
use Rattle.uuid.specs.Text.{parsed}
use Rattle.serde_json.specs.Data.{Data, null, number, boolean, string, array, object, Num}
use Rattle.serde_json.specs.Events.{members_len}
use Rattle.serde_json.specs.Find.{get, as_i64, as_str, as_object}
use Rattle.merge_types.specs.declared.values.Value.{Value}
use Rattle.merge_types.specs.declared.values.Value.TheVariants.{Null, Int, Bit, Text, Day, Guid, Bytes}
use Rattle.merge_types.specs.Guid.{guid_text}
use Rattle.merge_json.specs.Reading.{◌>>=◌, Reader}
use Rattle.merge_json.specs.Days.{day_of}

abbrev pub number_in : Option (List ℕ) → Option ℕ
number_in bytes = bytes >>= λ bs. Some (from_be_bytes w128 bs)

-- the number that 36 characters write, in either case. What a text could mean is made out first, and counts where it is written so
abbrev pub guid_printed_as : List ℕ → ℕ → Option ℕ
guid_printed_as text n = if nat_lt n (2 ^ 128) && bytes_eq (map to_ascii_lowercase text) (guid_text n) then Some n else None

unfoldable pub guid_of : List ℕ → Option ℕ
guid_of text = number_in (parsed (map to_ascii_lowercase text)) >>= guid_printed_as text

abbrev pub when_ok : Result (List ℕ) FromHexError → Option (List ℕ)
when_ok (Ok bytes) = Some bytes
when_ok (Err e) = None

-- pairs of hexadecimal digits, in either case
unfoldable pub bytes_at : Reader Value
bytes_at d = as_str d >>= λ text. when_ok (decode_of text) >>= λ bytes. Some (Bytes bytes)

unfoldable pub day_at : Reader Value
day_at d = as_str d >>= λ text. day_of text >>= λ day. Some (Day day)

unfoldable pub guid_at : Reader Value
guid_at d = as_str d >>= λ text. guid_of text >>= λ n. Some (Guid n)

-- by the key that there is
abbrev pub tag_at : Option Data → Option Data → Option Data → Option Value
tag_at (Some bytes) day guid = bytes_at bytes
tag_at None (Some day) guid = day_at day
tag_at None None (Some guid) = guid_at guid
tag_at None None None = None

-- how many members an object has
unfoldable pub count_of : Reader ℕ
count_of d = as_object d >>= λ ms. Some (members_len ms)

-- an object with one key, which tells the type
unfoldable pub tagged_at : Reader Value
tagged_at d = count_of d >>= λ n. if n == 1 then tag_at (get (codes "bytes") d) (get (codes "day") d) (get (codes "guid") d) else None

unfoldable pub int_at : Num → Option Value
int_at n = as_i64 n >>= λ z. Some (Int z)

unfoldable pub value_at : Reader Value
value_at null = Some Null
value_at (boolean b) = Some (Bit b)
value_at (number n) = int_at n
value_at (string text) = Some (Text text)
value_at (array ds) = None
value_at (object ms) = tagged_at (object ms)
