-- Versions of rows as bytes: how they are read, how they are spelled, and which have a spelling.
use Rattle.std.specs.Prelude.{◌≡◌, ℕ, ℤ, ◌<◌, ◌^◌, FitsSigned, zero, suc, List, [], ◌∷◌, ◌++◌, length, Some, None, Bool, true, false}
use Rattle.std.specs.Int.{w8, w16, w32, w64, w128, to_be_bytes}
use Rattle.std.specs.Str.{is_utf8}
use Rattle.merge_types.specs.declared.identifiers.Dot.{Dot}
use Rattle.merge_types.specs.declared.values.Value.{Value}
use Rattle.merge_types.specs.declared.values.Value.TheVariants.{Null, Int, Bit, Text, Day, Guid, Bytes}
use Rattle.merge_units.specs.declared.version.Cell.{Cell}
use Rattle.merge_units.specs.declared.version.Body.{Body}
use Rattle.merge_units.specs.declared.version.Body.TheVariants.{Live, Dead}
use Rattle.merge_units.specs.declared.version.Version.{Version}
pub use Rattle.merge_types.specs.Day.{is_day}
use Rattle.merge_lineage.specs.Lineage.{ascending}
use Rattle.merge_record.specs.Reading.{◌>>=◌, Reader, both_at, counted_at, number_at, signed_at, string_at, tested_at, wrapped_at}
use Rattle.merge_record.specs.Codec.{counted_bytes, signed_bytes, string_bytes_of, AreCounted, IsShort}

-- ---- changes: a site in two bytes, and a number in eight

abbrev pub site_number : ℕ → ℕ → Dot
site_number site number = record { site = record { 0 = site }; number = number }

unfoldable pub dot_at : Reader Dot
dot_at bytes = both_at site_number (number_at w16) (number_at w64) bytes

abbrev pub dot_bytes : Dot → List ℕ
dot_bytes dot = to_be_bytes w16 dot.site.0 ++ to_be_bytes w64 dot.number

abbrev pub IsDot : Dot → Type 0
IsDot dot = (dot.site.0 < 2 ^ 16) × (dot.number < 2 ^ 64)

-- ---- lineages: a count, and so many dots with ascending sites

unfoldable pub lineage_at : Reader (List Dot)
lineage_at bytes = tested_at ascending (counted_at w8 dot_at) bytes

abbrev pub lineage_bytes : List Dot → List ℕ
lineage_bytes dots = counted_bytes w8 dot_bytes dots

abbrev pub IsLineage : List Dot → Type 0
IsLineage dots = AreCounted (2 ^ 8) IsDot dots × (ascending dots ≡ true)

-- a lineage whose count fits its field
abbrev pub IsShortLineage : List Dot → Type 0
IsShortLineage dots = length dots < 2 ^ 8

-- ---- values: a tag, and what stands behind it

unfoldable pub bit_at : Reader Bool
bit_at (zero ∷ rest) = Some (false, rest)
bit_at (suc zero ∷ rest) = Some (true, rest)
bit_at bytes = None

unfoldable pub text_at : Reader (List ℕ)
text_at bytes = tested_at is_utf8 string_at bytes

unfoldable pub day_at : Reader ℤ
day_at bytes = tested_at is_day (signed_at w32) bytes

-- a value with this tag
unfoldable pub tagged_at : ℕ → Reader Value
tagged_at zero bytes = Some (Null, bytes)
tagged_at (suc zero) bytes = wrapped_at Int (signed_at w64) bytes
tagged_at (suc (suc zero)) bytes = wrapped_at Bit bit_at bytes
tagged_at (suc (suc (suc zero))) bytes = wrapped_at Text text_at bytes
tagged_at (suc (suc (suc (suc zero)))) bytes = wrapped_at Day day_at bytes
tagged_at (suc (suc (suc (suc (suc zero))))) bytes = wrapped_at Guid (number_at w128) bytes
tagged_at (suc (suc (suc (suc (suc (suc zero)))))) bytes = wrapped_at Bytes string_at bytes
tagged_at (suc (suc (suc (suc (suc (suc (suc n))))))) bytes = None

unfoldable pub value_at : Reader Value
value_at bytes = number_at w8 bytes >>= λ tag. tagged_at tag.0 tag.1

abbrev pub bit_of : Bool → ℕ
bit_of true = 1
bit_of false = 0

abbrev pub value_bytes : Value → List ℕ
value_bytes Null = 0 ∷ []
value_bytes (Int z) = 1 ∷ signed_bytes w64 z
value_bytes (Bit b) = 2 ∷ bit_of b ∷ []
value_bytes (Text bs) = 3 ∷ string_bytes_of bs
value_bytes (Day z) = 4 ∷ signed_bytes w32 z
value_bytes (Guid n) = 5 ∷ to_be_bytes w128 n
value_bytes (Bytes bs) = 6 ∷ string_bytes_of bs

abbrev pub IsValue : Value → Type 0
IsValue (Int z) = FitsSigned w64 z
IsValue (Text bs) = IsShort bs × (is_utf8 bs ≡ true)
IsValue (Day z) = FitsSigned w32 z × (is_day z ≡ true)
IsValue (Guid n) = n < 2 ^ 128
IsValue (Bytes bs) = IsShort bs
IsValue v = Unit {0}

-- a value whose length fits its field, and of days those that have a reading
abbrev pub IsShortValue : Value → Type 0
IsShortValue (Text bs) = IsShort bs
IsShortValue (Day z) = is_day z ≡ true
IsShortValue (Bytes bs) = IsShort bs
IsShortValue v = Unit {0}

-- ---- cells: the top, a count, and so many values

abbrev pub top_values : Dot → List Value → Cell
top_values top values = record { top = top; values = values }

unfoldable pub cell_at : Reader Cell
cell_at bytes = both_at top_values dot_at (counted_at w8 value_at) bytes

abbrev pub cell_bytes : Cell → List ℕ
cell_bytes cell = dot_bytes cell.top ++ counted_bytes w8 value_bytes cell.values

abbrev pub IsCell : Cell → Type 0
IsCell cell = IsDot cell.top × AreCounted (2 ^ 8) IsValue cell.values

abbrev pub IsShortCell : Cell → Type 0
IsShortCell cell = AreCounted (2 ^ 8) IsShortValue cell.values

-- ---- bodies: 1, a count and so many cells; or 2 and the change that deleted the row

unfoldable pub body_tagged_at : ℕ → Reader Body
body_tagged_at zero bytes = None
body_tagged_at (suc zero) bytes = wrapped_at Live (counted_at w8 cell_at) bytes
body_tagged_at (suc (suc zero)) bytes = wrapped_at Dead dot_at bytes
body_tagged_at (suc (suc (suc n))) bytes = None

unfoldable pub body_at : Reader Body
body_at bytes = number_at w8 bytes >>= λ tag. body_tagged_at tag.0 tag.1

abbrev pub body_bytes : Body → List ℕ
body_bytes (Live cells) = 1 ∷ counted_bytes w8 cell_bytes cells
body_bytes (Dead dot) = 2 ∷ dot_bytes dot

abbrev pub IsBody : Body → Type 0
IsBody (Live cells) = AreCounted (2 ^ 8) IsCell cells
IsBody (Dead dot) = IsDot dot

abbrev pub IsShortBody : Body → Type 0
IsShortBody (Live cells) = AreCounted (2 ^ 8) IsShortCell cells
IsShortBody (Dead dot) = Unit {0}

-- ---- versions: the lineage, then the body

abbrev pub lineage_body : List Dot → Body → Version
lineage_body lineage body = record { lineage = lineage; body = body }

unfoldable pub version_at : Reader Version
version_at bytes = both_at lineage_body lineage_at body_at bytes

abbrev pub version_bytes : Version → List ℕ
version_bytes version = lineage_bytes version.lineage ++ body_bytes version.body

abbrev pub IsVersion : Version → Type 0
IsVersion version = IsLineage version.lineage × IsBody version.body

abbrev pub IsShortVersion : Version → Type 0
IsShortVersion version = IsShortLineage version.lineage × IsShortBody version.body
