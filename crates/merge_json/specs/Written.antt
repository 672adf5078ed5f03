-- Plain values, changes and cells as JSON values, as they are written.
use Rattle.std.specs.Prelude.{◌≡◌, ℕ, ℤ, List, map, codes, Some}
use Rattle.hex.specs.Hex.{encode_lower}
use Rattle.serde_json.specs.Data.{Data, null, number, unsigned, boolean, string, array, item, no_items, object, member, no_members}
use Rattle.serde_json.specs.Find.{of_integer}
use Rattle.serde_json.specs.View.{items_of}
use Rattle.merge_types.specs.declared.identifiers.Dot.{Dot}
use Rattle.merge_types.specs.declared.values.Value.{Value}
use Rattle.merge_types.specs.declared.values.Value.TheVariants.{Null, Int, Bit, Text, Day, Guid, Bytes}
use Rattle.merge_types.specs.Day.{day_text}
use Rattle.merge_types.specs.Guid.{guid_text}
use Rattle.merge_units.specs.declared.version.Cell.{Cell}
use Rattle.merge_json.specs.Reading.{Reader}

-- what is written of it is read as it again
abbrev pub ReadsBack : {A : Type 0} → Reader A → (A → Data) → A → Type 0
ReadsBack read write x = read (write x) ≡ Some x

abbrev pub whole : ℕ → Data
whole n = number (unsigned n)

abbrev pub signed_data : ℤ → Data
signed_data z = number (of_integer z)

abbrev pub list_of : {A : Type 0} → (A → Data) → List A → Data
list_of data_of xs = array (items_of (map data_of xs))

abbrev pub dot_data : Dot → Data
dot_data dot = array (item (whole dot.site.0) (item (whole dot.number) no_items))

-- 36 characters in lower case
abbrev pub guid_data : ℕ → Data
guid_data n = string (guid_text n)

-- an object with one key, which tells the type
abbrev pub tagged_data : List ℕ → List ℕ → Data
tagged_data key text = object (member key (string text) no_members)

abbrev pub value_data : Value → Data
value_data Null = null
value_data (Int z) = signed_data z
value_data (Bit b) = boolean b
value_data (Text text) = string text
value_data (Day day) = tagged_data (codes "day") (day_text day)
value_data (Guid n) = tagged_data (codes "guid") (guid_text n)
value_data (Bytes bytes) = tagged_data (codes "bytes") (encode_lower bytes)

abbrev pub cell_data : Cell → Data
cell_data cell =
    object (member (codes "top") (dot_data cell.top)
    (member (codes "values") (list_of value_data cell.values) no_members))
