-- Which JSON values are read as plain values, changes, lineages and cells.
use Rattle.std.specs.Prelude.{◌≡◌, ◌<◌, ◌^◌, ℕ, zero, suc, ℤ, pos, List, [], ◌∷◌, Bool, codes, Some, Ok}
use Rattle.hex.specs.Hex.{decode_of}
use Rattle.serde_json.specs.Data.{Data, Num, unsigned, negative, float, null, number, boolean, string, array, Items, no_items, item}
use Rattle.serde_json.specs.Find.{get}
use Rattle.merge_types.specs.declared.identifiers.SiteId.{SiteId}
use Rattle.merge_types.specs.declared.identifiers.Dot.{Dot}
use Rattle.merge_types.specs.declared.identifiers.RowId.{RowId}
use Rattle.merge_types.specs.declared.values.Value.{Value}
use Rattle.merge_types.specs.declared.values.Value.TheVariants.{Null, Int, Bit, Text, Day, Guid, Bytes}
use Rattle.merge_types.specs.Day.{IsDayText}
use Rattle.merge_types.specs.Guid.{IsGuidText}
use Rattle.merge_units.specs.declared.version.Cell.{Cell}
use Rattle.merge_lineage.specs.Lineage.{IsAscending}
use Rattle.merge_json.specs.Written.{whole, dot_data, tagged_data}

-- the member with this key is of that form. Of a key that the text has twice the last member counts, and nothing is asked of other keys
abbrev pub HasMember : {A : Type 0} → List ℕ → (A → Data → Type 0) → A → Data → Type 0
HasMember key Is x d = (v : Data) × (get key d ≡ Some v) × Is x v

-- the members of a list are of a form, one by one
abbrev pub AreEach : {A : Type 0} → (A → Data → Type 0) → List A → Items → Type 0
AreEach Is [] no_items = Unit {0}
AreEach Is [] (item d ds) = ⊥
AreEach Is (x ∷ xs) no_items = ⊥
AreEach Is (x ∷ xs) (item d ds) = Is x d × AreEach Is xs ds

abbrev pub IsList : {A : Type 0} → (A → Data → Type 0) → List A → Data → Type 0
IsList Is xs d = (ds : Items) × (d ≡ array ds) × AreEach Is xs ds

-- behind so many members that have the form stands one that has none
abbrev pub HasBadMember : {A : Type 0} → (A → Data → Type 0) → ℕ → Items → Type 0
HasBadMember {A = A} Is n no_items = ⊥
HasBadMember {A = A} Is zero (item d ds) = (x : A) → Is x d → ⊥
HasBadMember {A = A} Is (suc n) (item d ds) = ((x : A) × Is x d) × HasBadMember Is n ds

-- a number without point and exponent
abbrev pub IsWhole : ℕ → Data → Type 0
IsWhole n d = d ≡ whole n

abbrev pub IsBelow : ℕ → ℕ → Data → Type 0
IsBelow limit n d = (n < limit) × IsWhole n d

-- the same with a sign, which fits 64 bits
abbrev pub IsInteger : ℤ → Num → Type 0
IsInteger z (unsigned n) = (n < 2 ^ 63) × (z ≡ pos n)
IsInteger z (negative y) = z ≡ y
IsInteger z (float x) = ⊥

abbrev pub IsSigned : ℤ → Data → Type 0
IsSigned z d = (n : Num) × (d ≡ number n) × IsInteger z n

abbrev pub IsBit : Bool → Data → Type 0
IsBit b d = d ≡ boolean b

-- ---- changes and rows

abbrev pub IsSite : SiteId → Data → Type 0
IsSite site d = IsBelow 65_536 site.0 d

-- a list of just a site and a number
abbrev pub IsDot : Dot → Data → Type 0
IsDot dot d = (dot.site.0 < 65_536) × (d ≡ dot_data dot)

-- changes whose sites ascend
abbrev pub IsLineage : List Dot → Data → Type 0
IsLineage dots d = IsAscending dots × IsList IsDot dots d

-- 36 characters, in either case
abbrev pub IsRow : RowId → Data → Type 0
IsRow row d = (text : List ℕ) × (d ≡ string text) × IsGuidText text row.0

-- ---- values of columns

-- the values of three types are objects with one key, which tells the type
abbrev pub IsValue : Value → Data → Type 0
IsValue Null d = d ≡ null
IsValue (Int z) d = IsSigned z d
IsValue (Bit b) d = IsBit b d
IsValue (Text text) d = d ≡ string text
IsValue (Day day) d = (text : List ℕ) × (d ≡ tagged_data (codes "day") text) × IsDayText text day
IsValue (Guid n) d = (text : List ℕ) × (d ≡ tagged_data (codes "guid") text) × IsGuidText text n
IsValue (Bytes bytes) d = (text : List ℕ) × (d ≡ tagged_data (codes "bytes") text) × (decode_of text ≡ Ok bytes)

pub record IsCell (cell : Cell) (d : Data) : Type 0 where
  pub top : HasMember (codes "top") IsDot cell.top d
  pub values : HasMember (codes "values") (IsList IsValue) cell.values d
