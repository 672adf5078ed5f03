-- Rows and conflicts can be printed after a step: what it puts was tested to have a record.
use Rattle.std.proofs.Common.{◌≡◌, ◌&&◌, ℕ, ℤ, int_le, Bool, true, false, List, [], ◌∷◌, ◌++◌, map, refl, subst}
use Rattle.std.specs.Int.Signed.{le_z_yes}
use Rattle.std.proofs.lemmas.Float.{T_from_true}
use Rattle.std.specs.Prelude.{All}
use Rattle.std.specs.List.{AllByRecursion}
use Rattle.std.specs.declared.cmp.Ordering.{Ordering}
use Rattle.std.specs.BTreeMap.{is_at}
use Rattle.std.specs.Map.{values_of}
use Rattle.std.proofs.lemmas.List.Elements.{All-append, All-from_recursion, All-map, recursion_from_All}
use Rattle.std.proofs.lemmas.Map.Views.{All-map-remove_entry, All-values-insert_entry}
use Rattle.merge_types.specs.Day.{IsDay}
use Rattle.merge_types.specs.Limits.{first_day, last_day}
use Rattle.merge_types.specs.Literal.{IsProper}
use Rattle.merge_types.specs.RowKeys.{key_cmp}
use Rattle.merge_types.specs.declared.row_key.RowKey.{RowKey}
use Rattle.merge_types.specs.declared.values.Value.{Value}
use Rattle.merge_types.specs.declared.values.Value.TheVariants.{Bit, Bytes, Day, Guid, Int, Null, Text}
use Rattle.merge_table.specs.Edits.{rows_after, rows_after_all}
use Rattle.merge_table.specs.declared.edit.Edit.{Edit}
use Rattle.merge_table.specs.declared.edit.Edit.TheVariants.{Put, Take}
use Rattle.merge_units.specs.declared.version.Body.{Body}
use Rattle.merge_units.specs.declared.version.Body.TheVariants.{Dead, Live}
use Rattle.merge_units.specs.declared.version.Cell.{Cell}
use Rattle.merge_units.specs.declared.version.Version.{Version}
use Rattle.merge_conflict.specs.declared.row.ConflictRow.{ConflictRow}
use Rattle.merge_model.proofs.Lists.Finding.{all-weaker}
use Rattle.merge_model.specs.Script.Proper.{AreProper, IsProperBody}
use Rattle.merge_record.specs.Versions.{IsBody, IsCell, IsShortBody, IsShortCell, IsShortValue, IsShortVersion, IsValue, IsVersion, is_day}
use Rattle.merge_keeper.specs.Edits.{IsShortEdit, IsShortLoser}
use Rattle.merge_world.specs.Printable.{AreLostPrintable, ArePrintable}
use Rattle.merge_site.specs.Lists.{conflict_put}

-- ---- what has a record can be printed

both : (a b : Bool) → (a && b) ≡ true → (a ≡ true) × (b ≡ true)
both true b e = (refl, e)
both false b e = absurd cc

day-proper : (day : ℤ) → is_day day ≡ true → IsDay day
day-proper day e =
    let tests = both (int_le first_day day) (int_le day last_day) e in
    (le_z_yes (T_from_true (int_le first_day day) tests.0), le_z_yes (T_from_true (int_le day last_day) tests.1))

value-proper : (value : Value) → IsShortValue value → IsProper value
value-proper Null short = tt
value-proper (Int number) short = tt
value-proper (Bit bit) short = tt
value-proper (Text words) short = tt
value-proper (Day day) short = day-proper day short
value-proper (Guid number) short = tt
value-proper (Bytes octets) short = tt

values-proper : (values : List Value) → AllByRecursion IsShortValue values → AllByRecursion IsProper values
values-proper [] short = tt
values-proper (value ∷ values) short = (value-proper value short.0, values-proper values short.1)

cells-proper : (cells : List Cell) → AllByRecursion IsShortCell cells → AllByRecursion (λ (cell : Cell). AreProper cell.values) cells
cells-proper [] short = tt
cells-proper (cell ∷ cells) short = (All-from_recursion IsProper cell.values (values-proper cell.values short.0.1), cells-proper cells short.1)

body-proper : (body : Body) → IsShortBody body → IsProperBody body
body-proper (Live cells) short = All-from_recursion (λ (cell : Cell). AreProper cell.values) cells (cells-proper cells short.1)
body-proper (Dead top) short = tt

pub version-proper : (version : Version) → IsShortVersion version → IsProperBody version.body
version-proper version short = body-proper version.body short.1

-- ---- and so can what was read of one

value-short : (value : Value) → IsValue value → IsShortValue value
value-short Null is = tt
value-short (Int number) is = tt
value-short (Bit bit) is = tt
value-short (Text words) is = is.0
value-short (Day day) is = is.1
value-short (Guid number) is = tt
value-short (Bytes octets) is = is

values-short : (values : List Value) → AllByRecursion IsValue values → AllByRecursion IsShortValue values
values-short [] are = tt
values-short (value ∷ values) are = (value-short value are.0, values-short values are.1)

cell-short : (cell : Cell) → IsCell cell → IsShortCell cell
cell-short cell is = (is.1.0, values-short cell.values is.1.1)

cells-short : (cells : List Cell) → AllByRecursion IsCell cells → AllByRecursion IsShortCell cells
cells-short [] are = tt
cells-short (cell ∷ cells) are = (cell-short cell are.0, cells-short cells are.1)

body-short : (body : Body) → IsBody body → IsShortBody body
body-short (Live cells) is = (is.0, cells-short cells is.1)
body-short (Dead top) is = tt

record-proper : (version : Version) → IsVersion version → IsProperBody version.body
record-proper version is = body-proper version.body (body-short version.body is.1)

pub records-printable : {R : Type 0} (version : R → Version) (rows : List (RowKey × R)) → AllByRecursion (λ (row : RowKey × R). IsVersion (version row.1)) rows → ArePrintable version rows
records-printable {R = R} version rows are =
    All-from_recursion (λ (row : RowKey × R). IsProperBody (version row.1).body) rows
    (all-weaker (λ (row : RowKey × R). IsVersion (version row.1)) (λ (row : RowKey × R). IsProperBody (version row.1).body) (λ row is. record-proper (version row.1) is) rows are)

pub lost-records-printable : (rows : List ConflictRow) → AllByRecursion (λ (row : ConflictRow). IsVersion row.losing) rows → AreLostPrintable rows
lost-records-printable rows are =
    All-from_recursion (λ (row : ConflictRow). IsProperBody row.losing.body) rows
    (all-weaker (λ (row : ConflictRow). IsVersion row.losing) (λ (row : ConflictRow). IsProperBody row.losing.body) (λ row is. record-proper row.losing is) rows are)

-- ---- rows after edits

module _ {K V : Type 0} (P Q : V → Type 0) (weaken : (row : V) → P row → Q row) (cmp : K → K → Ordering) where
  values-after : (edit : Edit K V) → IsShortEdit P edit → (rows : List (K × V)) → All Q (values_of rows) → All Q (values_of (rows_after cmp rows edit))
  values-after (Put key row) short rows h = All-values-insert_entry cmp key row Q rows h (weaken row short)
  values-after (Take key) short rows h = All-map-remove_entry (is_at (cmp key)) (λ (e : K × V). e.1) Q rows h

  values-after_all : (edits : List (Edit K V)) → AllByRecursion (IsShortEdit P) edits → (rows : List (K × V)) → All Q (values_of rows) → All Q (values_of (rows_after_all cmp rows edits))
  values-after_all [] short rows h = h
  values-after_all (edit ∷ edits) short rows h = values-after_all edits short.1 (rows_after cmp rows edit) (values-after edit short.0 rows h)

of_values : {K V : Type 0} (Q : V → Type 0) (rows : List (K × V)) → AllByRecursion Q (values_of rows) → AllByRecursion (λ (row : K × V). Q row.1) rows
of_values Q [] h = tt
of_values Q (row ∷ rows) h = (h.0, of_values Q rows h.1)

-- rows whose versions have records
pub rows-printable : {R : Type 0} (version : R → Version) (IsShortRow : R → Type 0) → ((row : R) → IsShortRow row → IsShortVersion (version row)) → (edits written : List (Edit RowKey R)) → written ≡ edits → AllByRecursion (IsShortEdit IsShortRow) written
    → (rows : List (RowKey × R)) → ArePrintable version rows → ArePrintable version (rows_after_all key_cmp rows edits)
rows-printable {R = R} version IsShortRow of edits written same short rows h =
    let Q : R → Type 0 = λ row. IsProperBody (version row).body in
    let of_rows : All Q (values_of rows) = All-map Q (λ (e : RowKey × R). e.1) rows h in
    let after = rows_after_all key_cmp rows edits in
    let made = values-after_all IsShortRow Q (λ row s. version-proper (version row) (of row s)) key_cmp edits (subst (λ (es : List (Edit RowKey R)). AllByRecursion (IsShortEdit IsShortRow) es) same short) rows of_rows in
    All-from_recursion (λ (e : RowKey × R). Q e.1) after (of_values Q after (recursion_from_All Q (values_of after) made))

-- ---- conflicts that are added

added-proper : (rows : List ConflictRow) → AllByRecursion (IsShortEdit IsShortLoser) (map conflict_put rows) → AllByRecursion (λ (row : ConflictRow). IsProperBody row.losing.body) rows
added-proper [] short = tt
added-proper (row ∷ rows) short = (version-proper row.losing short.0, added-proper rows short.1)

pub lost-printable : (rows added : List ConflictRow) (written : List (Edit ℕ ConflictRow)) → written ≡ map conflict_put added → AllByRecursion (IsShortEdit IsShortLoser) written → AreLostPrintable rows → AreLostPrintable (rows ++ added)
lost-printable rows added written same short h =
    let P : ConflictRow → Type 0 = λ row. IsProperBody row.losing.body in
    All-append P rows added h (All-from_recursion P added (added-proper added (subst (λ (es : List (Edit ℕ ConflictRow)). AllByRecursion (IsShortEdit IsShortLoser) es) same short)))

-- a site with no rows and no conflicts
pub none-printable : {R : Type 0} (version : R → Version) → ArePrintable version []
none-printable {R = R} version = All-from_recursion (λ (row : RowKey × R). IsProperBody (version row.1).body) [] tt

pub none-lost : AreLostPrintable []
none-lost = All-from_recursion (λ (row : ConflictRow). IsProperBody row.losing.body) [] tt
