-- Values that are of their types and meet the rules of a local change are values that a record can have; and so are those of the version that it makes.
use Rattle.std.specs.List.{AllByRecursion, enumerate_from}
use Rattle.std.specs.Option.{option_map_or}
use Rattle.std.specs.Prelude.{Bool, List, None, Option, Some, [], false, find, if◌then◌else◌, length, nat_le, nat_lt, not, option_map, refl, slice_get, true, unwrap_or, ℕ, ◌&&◌, ◌<◌, ◌==◌, ◌^◌, ◌≡◌, ◌≤◌, ◌∷◌}
use Rattle.std.proofs.Common.{arith}
use Rattle.std.proofs.lemmas.Bool.Decides.{nat_tests}
use Rattle.merge_types.specs.Fitting.{content_length, has_type, is_proper, is_short}
use Rattle.merge_types.specs.Limits.{value_limit}
use Rattle.merge_types.specs.declared.changes.Change.{Change}
use Rattle.merge_types.specs.declared.changes.Change.TheVariants.{Delete, Insert, Update}
use Rattle.merge_types.specs.declared.changes.Setting.{Setting}
use Rattle.merge_types.specs.declared.changes.Tracking.{Tracking}
use Rattle.merge_types.specs.declared.changes.Tracking.TheVariants as tracking
use Rattle.merge_types.specs.declared.identifiers.Dot.{Dot}
use Rattle.merge_types.specs.declared.values.ColumnType.{ColumnType}
use Rattle.merge_types.specs.declared.values.Value.{Value}
use Rattle.merge_types.specs.declared.values.Value.TheVariants.{Bit, Bytes, Day, Guid, Int, Null, Text}
use Rattle.merge_units.specs.Changes.{cell_after, cells_after, changed, new_cell, new_cells, removed, set_value, value_after, whole_row_after}
use Rattle.merge_units.specs.Version.{cells_of}
use Rattle.merge_units.specs.declared.version.Body.{Body}
use Rattle.merge_units.specs.declared.version.Body.TheVariants.{Dead, Live}
use Rattle.merge_units.specs.declared.version.Cell.{Cell}
use Rattle.merge_units.specs.declared.version.Version.{Version}
use Rattle.merge_schema.specs.declared.publication.Publication.{Publication}
use Rattle.merge_batch.specs.LocalChanges.{article_of, change_refusal, fits_type, identity_column, is_of_type, long_value, new_value, new_values, no_row, sets_identity, settings_of, tracking_at, types_at, version_after, wrong_type}
use Rattle.merge_batch.specs.declared.refusal.Refusal.TheVariants.{RowTooLong, WrongType}
use Rattle.merge_record.specs.Versions.{IsValue}
use Rattle.merge_model.proofs.Lists.{OfSome, all-map, all-three, all-unit, some-map}
use Rattle.merge_model.proofs.Runs.Refusals.{first-none}
use Rattle.merge_typed.specs.Outside.{ChangeIsTyped, SettingIsTyped, ValueIsTyped}
use Rattle.merge_typed.specs.Typed.{BodyIsTyped, CellIsTyped}
use Rattle.merge_typed.proofs.Entries.{all-find, all-numbered, none-found, or-else}

short-length : (n : ℕ) → nat_le n value_limit ≡ true → n < 2 ^ 16
short-length n is = let low : n ≤ 4000 = grind (arith, nat_tests, is) in omega (arith, low)

pub value-is : (value : Value) → ValueIsTyped value → is_short value ≡ true → is_proper value ≡ true → IsValue value
value-is Null typed short proper = tt
value-is (Int number) typed short proper = typed
value-is (Bit bit) typed short proper = tt
value-is (Text text) typed short proper = (short-length (length text) short, typed)
value-is (Day day) typed short proper = (typed, proper)
value-is (Guid guid) typed short proper = typed
value-is (Bytes bytes) typed short proper = short-length (length bytes) short

-- What a change sets, where it is not refused.

abbrev pub IsSet : Setting → Type 0
IsSet setting = IsValue setting.value

second-true : (a b : Bool) → not (a && b) ≡ false → b ≡ true
second-true true true is = refl
second-true true false is = absurd cc
second-true false b is = absurd cc

proper-of : (found : Option ColumnType) (value : Value) → not (option_map_or (is_of_type value) found false) ≡ false → is_proper value ≡ true
proper-of None value is = absurd cc
proper-of (Some ty) value is = second-true (has_type ty value) (is_proper value) is

short-of : (n : ℕ) → nat_lt value_limit n ≡ false → nat_le n value_limit ≡ true
short-of n is = grind (arith, nat_tests, is)

not-mapped : {A B : Type 0} (f : A → B) (found : Option A) → option_map f found ≡ None → found ≡ None
not-mapped f None is = refl
not-mapped f (Some x) is = absurd cc

pub settings-are : (publication : Publication) (dot : Dot) (change : Change) (held : Option Version) (rows : ℕ) → change_refusal publication dot change held rows ≡ None → ChangeIsTyped change → AllByRecursion IsSet (settings_of change)
settings-are publication dot change held rows fine typed =
    let settings : List Setting = settings_of change in
    let types : List ColumnType = types_at publication (article_of change) in
    let a = first-none (no_row change held) _ fine in
    let b = first-none (sets_identity settings (identity_column publication (article_of change))) _ a.1 in
    let c = first-none (wrong_type types settings) _ b.1 in
    let d = first-none (long_value settings) _ c.1 in
    all-three SettingIsTyped (λ (setting : Setting). not (fits_type types setting) ≡ false) (λ (setting : Setting). nat_lt value_limit (content_length setting.value) ≡ false) IsSet
    (λ setting is fits short. value-is setting.value is (short-of (content_length setting.value) short) (proper-of (slice_get types setting.column) setting.value fits)) settings typed
    (none-found (λ (setting : Setting). not (fits_type types setting)) settings (not-mapped (λ (setting : Setting). WrongType setting.column) (find (λ (setting : Setting). not (fits_type types setting)) settings) c.0))
    (none-found (λ (setting : Setting). nat_lt value_limit (content_length setting.value)) settings (not-mapped (λ (setting : Setting). RowTooLong (content_length setting.value)) (find (λ (setting : Setting). nat_lt value_limit (content_length setting.value)) settings) d.0))

-- The version that it makes.

abbrev pub VersionIsTyped : Version → Type 0
VersionIsTyped version = BodyIsTyped version.body

pub cells-typed : (body : Body) → BodyIsTyped body → AllByRecursion CellIsTyped (cells_of body)
cells-typed (Live cells) typed = typed
cells-typed (Dead top) typed = tt

set-is : (settings : List Setting) (place : ℕ) → AllByRecursion IsSet settings → OfSome IsValue (set_value settings place)
set-is settings place all = some-map IsSet IsValue (λ (edit : Setting). edit.value) (λ edit is. is) (find (λ (edit : Setting). edit.column == place) settings) (all-find IsSet (λ (edit : Setting). edit.column == place) settings all)

if-is : (b : Bool) (one other : Value) → IsValue one → IsValue other → IsValue (if b then one else other)
if-is true one other is more = is
if-is false one other is more = more

new-value : (column : Option ℕ) (identity : Value) (settings : List Setting) (place : ℕ) → IsValue identity → AllByRecursion IsSet settings → IsValue (new_value column identity settings place)
new-value None identity settings place own all = or-else IsValue (set_value settings place) Null (set-is settings place all) tt
new-value (Some column) identity settings place own all = if-is (place == column) identity (unwrap_or (set_value settings place) Null) own (or-else IsValue (set_value settings place) Null (set-is settings place all) tt)

new-values : (publication : Publication) (article : ℕ) (identity : Value) (settings : List Setting) → IsValue identity → AllByRecursion IsSet settings → AllByRecursion IsValue (new_values publication article identity settings)
new-values publication article identity settings own all =
    all-map (λ (place : ℕ × ColumnType). Unit {0}) IsValue (λ (place : ℕ × ColumnType). new_value (identity_column publication article) identity settings place.0) (λ place none. new-value (identity_column publication article) identity settings place.0 own all)
    (enumerate_from 0 (types_at publication article)) (all-unit (enumerate_from 0 (types_at publication article)))

abbrev one-value : Dot → Value → Cell
one-value dot value = record { top = dot; values = value ∷ [] }

new-cells : (tr : Tracking) (dot : Dot) (values : List Value) → AllByRecursion IsValue values → AllByRecursion CellIsTyped (new_cells tr dot values)
new-cells tracking.Row dot values all = (all, tt)
new-cells tracking.ByColumn dot values all = all-map IsValue CellIsTyped (one-value dot) (λ value is. (is, tt)) values all

whole-after : (dot : Dot) (edits : List Setting) (cell : Cell) → AllByRecursion IsSet edits → CellIsTyped cell → CellIsTyped (whole_row_after dot edits cell)
whole-after dot edits cell all typed = all-map (λ (place : ℕ × Value). IsValue place.1) IsValue (value_after edits) (λ place is. or-else IsValue (set_value edits place.0) place.1 (set-is edits place.0 all) is)
    (enumerate_from 0 cell.values) (all-numbered IsValue 0 cell.values typed)

cell-by : (dot : Dot) (found : Option Value) (cell : Cell) → OfSome IsValue found → CellIsTyped cell → CellIsTyped (new_cell dot found cell)
cell-by dot None cell is typed = typed
cell-by dot (Some value) cell is typed = (is, tt)

cells-after : (tr : Tracking) (dot : Dot) (edits : List Setting) (cells : List Cell) → AllByRecursion IsSet edits → AllByRecursion CellIsTyped cells → AllByRecursion CellIsTyped (cells_after tr dot edits cells)
cells-after tracking.Row dot edits cells all typed = all-map CellIsTyped CellIsTyped (whole_row_after dot edits) (λ cell is. whole-after dot edits cell all is) cells typed
cells-after tracking.ByColumn dot edits cells all typed =
    all-map (λ (place : ℕ × Cell). CellIsTyped place.1) CellIsTyped (cell_after dot edits) (λ place is. cell-by dot (set_value edits place.0) place.1 (set-is edits place.0 all) is) (enumerate_from 0 cells) (all-numbered CellIsTyped 0 cells typed)

pub version-is : (publication : Publication) (dot : Dot) (identity : Value) (change : Change) (held : Option Version) → IsValue identity → AllByRecursion IsSet (settings_of change) → OfSome VersionIsTyped held
    → OfSome VersionIsTyped (version_after publication dot identity change held)
version-is publication dot identity (Insert article values) held own all typed = new-cells (tracking_at publication article) dot (new_values publication article identity values) (new-values publication article identity values own all)
version-is publication dot identity (Update article row values) held own all typed =
    some-map VersionIsTyped VersionIsTyped (λ (version : Version). changed version dot values (tracking_at publication article)) (λ version is. cells-after (tracking_at publication article) dot values (cells_of version.body) all (cells-typed version.body is)) held typed
version-is publication dot identity (Delete article row) held own all typed = some-map VersionIsTyped VersionIsTyped (λ (version : Version). removed version dot) (λ version is. tt) held typed
