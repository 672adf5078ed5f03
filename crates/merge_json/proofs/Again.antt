-- What is written of plain values, changes and cells is read again.
use Rattle.std.proofs.Common.{◌≡◌, ◌<◌, ◌^◌, ℕ, ℤ, pos, negsuc, List, [], ◌∷◌, map, Bool, true, Some, refl, ap, FitsSigned, arith}
use Rattle.std.specs.List.{AllByRecursion}
use Rattle.std.specs.Int.{w64}
use Rattle.std.proofs.lemmas.Bool.{lt-ltb}
use Rattle.hex.specs.Hex.{IsBytes}
use Rattle.hex.proofs.HexLemmas.{decode_of-encode_lower}
use Rattle.serde_json.specs.Data.{Data}
use Rattle.serde_json.specs.View.{items_of}
use Rattle.serde_json.proofs.OnLiterals.{serde_json_on_literals}
use Rattle.merge_types.specs.declared.identifiers.Dot.{Dot}
use Rattle.merge_types.specs.declared.identifiers.RowId.{RowId}
use Rattle.merge_types.specs.declared.values.Value.{Value}
use Rattle.merge_types.specs.declared.values.Value.TheVariants.{Null, Int, Bit, Text, Day, Guid, Bytes}
use Rattle.merge_types.specs.Day.{IsDay}
use Rattle.merge_types.specs.Guid.{guid_text}
use Rattle.merge_types.proofs.Guids.{IsGuidText-guid_text}
use Rattle.merge_units.specs.declared.version.Cell.{Cell}
use Rattle.merge_lineage.specs.Lineage.{ascending}
use Rattle.merge_json.specs.Reading.{◌>>=◌, Reader, whole_at, below_at, signed_at, each_at, list_at}
use Rattle.merge_json.specs.Written.{ReadsBack, whole, signed_data, list_of, dot_data, guid_data, value_data, cell_data}
use Rattle.merge_json.specs.Values.{guid_of, bytes_at, day_at, guid_at, count_of, tagged_at, int_at, value_at}
use Rattle.merge_json.specs.Rows.{site_at, dot_at, lineage_at, row_at, cell_at}
use Rattle.merge_json.proofs.DayTexts.{day_again}
use Rattle.merge_json.proofs.GuidTexts.{guid_is}

pub below_again : (limit n : ℕ) → n < limit → below_at limit (whole n) ≡ Some n
unfolding below_at whole_at
below_again limit n lt = rw (lt-ltb n limit lt) refl

pub whole_again : (n : ℕ) → whole_at (whole n) ≡ Some n
unfolding whole_at
whole_again n = refl

pub signed_again : (z : ℤ) → FitsSigned w64 z → signed_at (signed_data z) ≡ Some z
unfolding signed_at
signed_again (pos n) fits = let lt : n < 2 ^ 63 = omega (arith, fits) in rw (lt-ltb n (2 ^ 63) lt) refl
signed_again (negsuc n) fits = refl

pub each_again : {A : Type 0} (read : Reader A) (write : A → Data) (xs : List A) → AllByRecursion (ReadsBack read write) xs → each_at read (items_of (map write xs)) ≡ Some xs
each_again read write [] h = refl
each_again read write (x ∷ xs) h = rw (h.0, each_again read write xs h.1) refl

pub list_again : {A : Type 0} (read : Reader A) (write : A → Data) (xs : List A) → AllByRecursion (ReadsBack read write) xs → list_at read (list_of write xs) ≡ Some xs
list_again read write xs h = each_again read write xs h

pub dot_again : (d : Dot) → d.site.0 < 65_536 → dot_at (dot_data d) ≡ Some d
unfolding dot_at site_at
dot_again d lt = rw (below_again 65_536 d.site.0 lt, whole_again d.number) refl

pub lineage_again : (dots : List Dot) → ascending dots ≡ true → AllByRecursion (ReadsBack dot_at dot_data) dots → lineage_at (list_of dot_data dots) ≡ Some dots
unfolding lineage_at
lineage_again dots rising h = rw (list_again dot_at dot_data dots h, rising) refl

pub guid_again : (n : ℕ) → n < 2 ^ 128 → guid_of (guid_text n) ≡ Some n
guid_again n lt = guid_is (guid_text n) n (IsGuidText-guid_text n lt)

pub row_again : (row : RowId) → row.0 < 2 ^ 128 → row_at (guid_data row.0) ≡ Some row
unfolding row_at
row_again row lt = rw (guid_again row.0 lt) refl

pub int_again : (z : ℤ) → FitsSigned w64 z → value_at (value_data (Int z)) ≡ Some (Int z)
unfolding value_at int_at signed_at
int_again z fits = ap (λ o. o >>= λ y. Some (Int y)) (signed_again z fits)

pub bytes_again : (bs : List ℕ) → IsBytes bs → value_at (value_data (Bytes bs)) ≡ Some (Bytes bs)
unfolding value_at tagged_at count_of bytes_at serde_json_on_literals
bytes_again bs fits = rw (decode_of-encode_lower bs fits) refl

pub day_value_again : (z : ℤ) → IsDay z → value_at (value_data (Day z)) ≡ Some (Day z)
unfolding value_at tagged_at count_of day_at serde_json_on_literals
day_value_again z is = ap (λ o. o >>= λ y. Some (Day y)) (day_again z is)

pub guid_value_again : (n : ℕ) → n < 2 ^ 128 → value_at (value_data (Guid n)) ≡ Some (Guid n)
unfolding value_at tagged_at count_of guid_at serde_json_on_literals
guid_value_again n lt = ap (λ o. o >>= λ k. Some (Guid k)) (guid_again n lt)

pub null_again : value_at (value_data Null) ≡ Some Null
unfolding value_at
null_again = refl

pub bit_again : (b : Bool) → value_at (value_data (Bit b)) ≡ Some (Bit b)
unfolding value_at
bit_again b = refl

pub text_again : (text : List ℕ) → value_at (value_data (Text text)) ≡ Some (Text text)
unfolding value_at
text_again text = refl

-- of a value by another name
pub again_of : (v w : Value) → v ≡ w → value_at (value_data w) ≡ Some w → value_at (value_data v) ≡ Some v
again_of v w is again = rw is again

pub cell_again : (cell : Cell) → dot_at (dot_data cell.top) ≡ Some cell.top → AllByRecursion (ReadsBack value_at value_data) cell.values → cell_at (cell_data cell) ≡ Some cell
unfolding cell_at serde_json_on_literals
cell_again cell top values = rw (top, list_again value_at value_data cell.values values) refl
