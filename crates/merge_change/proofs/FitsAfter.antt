-- The row after a change fits its article.
use Rattle.std.proofs.Common.{◌≡◌, ◌≤◌, ◌<◌, ◌+◌, ◌&&◌, ◌==◌, ℕ, zero, suc, Bool, true, false, List, [], ◌∷◌, ◌++◌, length, map, find, Option, Some, None, option_map, unwrap_or, slice_get, if◌then◌else◌, refl, sym, ap, ◌∙◌, subst, arith, add-zero, zero-add}
use Rattle.std.specs.Prelude.{not, nat_lt, nat_le}
use Rattle.std.specs.List.{enumerate_from, flat_map, list_all, list_any}
use Rattle.std.specs.Option.{option_map_or}
use Rattle.std.proofs.lemmas.Bool.Decides.{nat_tests}
use Rattle.std.proofs.lemmas.Bool.{and_parts, and_from}
use Rattle.std.proofs.lemmas.Option.{slice_get-map}
use Rattle.merge_types.specs.Limits.{value_limit}
use Rattle.merge_types.specs.declared.changes.Setting.{Setting}
use Rattle.merge_types.specs.declared.changes.Tracking.{Tracking}
use Rattle.merge_types.specs.declared.changes.Tracking.TheVariants as tracking
use Rattle.merge_types.specs.declared.identifiers.Dot.{Dot}
use Rattle.merge_types.specs.declared.values.ColumnType.{ColumnType}
use Rattle.merge_types.specs.declared.values.Column.{Column}
use Rattle.merge_types.specs.declared.values.Value.{Value}
use Rattle.merge_types.specs.declared.values.Value.TheVariants.{Null, Int, Bit, Text, Day, Guid, Bytes}
use Rattle.merge_units.specs.Changes.{cell_after, new_cell, set_value, value_after}
use Rattle.merge_units.specs.declared.version.Cell.{Cell}
use Rattle.merge_batch.specs.Articles.{has_one_value, is_set, row_values, values_fit}
use Rattle.merge_types.specs.Fitting.{content_length, fits_column, has_type, is_proper, is_short}
use Rattle.merge_batch.specs.LocalChanges.{fits_type, is_of_type, long_value, new_value, wrong_type}
use Rattle.merge_change.proofs.Lengths.{is_long, mapped-none, not-found}

-- A value that is set fits its column.

short-is : (value : Value) → content_length value ≤ value_limit → is_short value ≡ true
short-is Null le = refl
short-is (Int number) le = refl
short-is (Bit bit) le = refl
short-is (Text bytes) le = grind (arith, nat_tests, le)
short-is (Day day) le = refl
short-is (Guid number) le = refl
short-is (Bytes bytes) le = grind (arith, nat_tests, le)

abbrev is_wrong : List ColumnType → Setting → Bool
is_wrong types setting = not (fits_type types setting)

typed : (types : List ColumnType) (setting : Setting) → is_wrong types setting ≡ false → (column : ℕ) → (setting.column == column) ≡ true → (ty : ColumnType) → slice_get types column ≡ Some ty → is_of_type setting.value ty ≡ true
typed types setting right column here ty is =
    let same : setting.column ≡ column = grind (arith, nat_tests, here) in
    let at : slice_get types setting.column ≡ Some ty = rw same is in
    let by : not (option_map_or (is_of_type setting.value) (Some ty) false) ≡ false = rw at at right in
    let out : (b : Bool) → not b ≡ false → b ≡ true = λ b. elim b as (λ v. not v ≡ false → v ≡ true) [ true ↦ λ h. refl | false ↦ λ h. absurd (cc h) ] in
    out (is_of_type setting.value ty) by

-- of its type, and short
fits-so : (ty : ColumnType) (value : Value) → is_of_type value ty ≡ true → is_short value ≡ true → fits_column ty value ≡ true
fits-so ty value typed short = let parts = and_parts (has_type ty value) (is_proper value) typed in and_from _ _ parts.0 (and_from _ _ short parts.1)

found-fits : (types : List ColumnType) (settings : List Setting) → find (is_wrong types) settings ≡ None → find is_long settings ≡ None → (column : ℕ) (value : Value) → set_value settings column ≡ Some value
    → (ty : ColumnType) → slice_get types column ≡ Some ty → fits_column ty value ≡ true
found-fits types [] right short column value set ty is = absurd (cc set)
found-fits types (setting ∷ settings) right short column value set ty is =
    let rights = not-found (is_wrong types) setting settings right in
    let shorts = not-found is_long setting settings short in
    let low : content_length setting.value ≤ value_limit = grind (arith, nat_tests, shorts.0) in
    let by : (b : Bool) → (setting.column == column) ≡ b → fits_column ty value ≡ true = λ b. elim b as (λ v. (setting.column == column) ≡ v → fits_column ty value ≡ true) [
      | true ↦ λ yes. let same : setting.value ≡ value = cc (rw yes at set) in
          subst (λ (v : Value). fits_column ty v ≡ true) same (fits-so ty setting.value (typed types setting rights.0 column yes ty is) (short-is setting.value low))
      | false ↦ λ no. found-fits types settings rights.1 shorts.1 column value (rw no at set) ty is
    ] in by (setting.column == column) refl

pub set-fits : (types : List ColumnType) (settings : List Setting) → wrong_type types settings ≡ None → long_value settings ≡ None
    → (column : ℕ) (value : Value) → set_value settings column ≡ Some value → (ty : ColumnType) → slice_get types column ≡ Some ty → fits_column ty value ≡ true
set-fits types settings right short = found-fits types settings (mapped-none _ (find (is_wrong types) settings) right) (mapped-none _ (find is_long settings) short)

-- what is set, or what is there
either-fits : (types : List ColumnType) (settings : List Setting) → wrong_type types settings ≡ None → long_value settings ≡ None → (column : ℕ) (ty : ColumnType) → slice_get types column ≡ Some ty
    → (value : Value) → fits_column ty value ≡ true → (set : Option Value) → set_value settings column ≡ set → fits_column ty (unwrap_or set value) ≡ true
either-fits types settings right short column ty is value fits None set = fits
either-fits types settings right short column ty is value fits (Some other) set = set-fits types settings right short column other set ty is

null-fits : (ty : ColumnType) → fits_column ty Null ≡ true
unfolding has_type
null-fits ty = refl

-- The columns from a place on have their types there.

abbrev AreAligned : List ColumnType → ℕ → List Column → Type 0
AreAligned types n columns = (i : ℕ) (column : Column) → slice_get columns i ≡ Some column → slice_get types (n + i) ≡ Some column.ty

aligned-tail : (types : List ColumnType) (n : ℕ) (column : Column) (columns : List Column) → AreAligned types n (column ∷ columns) → AreAligned types (n + 1) columns
aligned-tail types n column columns aligned i next is =
    let place : n + 1 + i ≡ n + suc i = omega arith in
    rw place (aligned (suc i) next is)

aligned-head : (types : List ColumnType) (n : ℕ) (column : Column) (columns : List Column) → AreAligned types n (column ∷ columns) → slice_get types n ≡ Some column.ty
aligned-head types n column columns aligned = rw add-zero at (aligned 0 column refl)

updated-from : (types : List ColumnType) (settings : List Setting) → wrong_type types settings ≡ None → long_value settings ≡ None → (n : ℕ) (columns : List Column) → AreAligned types n columns
    → (values : List Value) → values_fit columns values ≡ true → values_fit columns (map (value_after settings) (enumerate_from n values)) ≡ true
updated-from types settings right short n [] aligned [] fits = refl
updated-from types settings right short n [] aligned (value ∷ values) fits = absurd (cc fits)
updated-from types settings right short n (column ∷ columns) aligned [] fits = absurd (cc fits)
updated-from types settings right short n (column ∷ columns) aligned (value ∷ values) fits =
    let parts = and_parts (fits_column column.ty value) (values_fit columns values) fits in
    and_from _ _
    (either-fits types settings right short n column.ty (aligned-head types n column columns aligned) value parts.0 (set_value settings n) refl)
    (updated-from types settings right short (n + 1) columns (aligned-tail types n column columns aligned) values parts.1)

-- the identity value of a new row fits its column
abbrev pub IdentityFits : List ColumnType → Option ℕ → Value → Type 0
IdentityFits types None identity = Unit {0}
IdentityFits types (Some place) identity = (ty : ColumnType) → slice_get types place ≡ Some ty → fits_column ty identity ≡ true

new-fits : (types : List ColumnType) (settings : List Setting) → wrong_type types settings ≡ None → long_value settings ≡ None → (place : Option ℕ) (identity : Value) → IdentityFits types place identity
    → (column : ℕ) (ty : ColumnType) → slice_get types column ≡ Some ty → fits_column ty (new_value place identity settings column) ≡ true
new-fits types settings right short None identity fits column ty is = either-fits types settings right short column ty is Null (null-fits ty) (set_value settings column) refl
new-fits types settings right short (Some place) identity fits column ty is =
    let by : (b : Bool) → (column == place) ≡ b → fits_column ty (if b then identity else unwrap_or (set_value settings column) Null) ≡ true = λ b. elim b as (λ v. (column == place) ≡ v → fits_column ty (if v then identity else unwrap_or (set_value settings column) Null) ≡ true) [
      | true ↦ λ yes. let same : column ≡ place = grind (arith, nat_tests, yes) in fits ty (rw (← same) is)
      | false ↦ λ no. either-fits types settings right short column ty is Null (null-fits ty) (set_value settings column) refl
    ] in by (column == place) refl

new-from : (types : List ColumnType) (settings : List Setting) → wrong_type types settings ≡ None → long_value settings ≡ None → (place : Option ℕ) (identity : Value) → IdentityFits types place identity
    → (n : ℕ) (columns : List Column) → AreAligned types n columns
    → values_fit columns (map (λ (p : ℕ × ColumnType). new_value place identity settings p.0) (enumerate_from n (map (λ (column : Column). column.ty) columns))) ≡ true
new-from types settings right short place identity fits n [] aligned = refl
new-from types settings right short place identity fits n (column ∷ columns) aligned =
    and_from _ _
    (new-fits types settings right short place identity fits n column.ty (aligned-head types n column columns aligned))
    (new-from types settings right short place identity fits (n + 1) columns (aligned-tail types n column columns aligned))

-- the columns of an article are aligned with its types
aligned : (columns : List Column) → AreAligned (map (λ (column : Column). column.ty) columns) 0 columns
aligned columns i column is = rw (zero-add, slice_get-map (λ (one : Column). one.ty) columns i, is) refl

pub updated-fit : (columns : List Column) (settings : List Setting) → wrong_type (map (λ (column : Column). column.ty) columns) settings ≡ None → long_value settings ≡ None
    → (values : List Value) → values_fit columns values ≡ true → values_fit columns (map (value_after settings) (enumerate_from 0 values)) ≡ true
updated-fit columns settings right short = updated-from (map (λ (column : Column). column.ty) columns) settings right short 0 columns (aligned columns)

pub new-fit : (columns : List Column) (settings : List Setting) → wrong_type (map (λ (column : Column). column.ty) columns) settings ≡ None → long_value settings ≡ None
    → (place : Option ℕ) (identity : Value) → IdentityFits (map (λ (column : Column). column.ty) columns) place identity
    → values_fit columns (map (λ (p : ℕ × ColumnType). new_value place identity settings p.0) (enumerate_from 0 (map (λ (column : Column). column.ty) columns))) ≡ true
new-fit columns settings right short place identity fits = new-from (map (λ (column : Column). column.ty) columns) settings right short place identity fits 0 columns (aligned columns)

-- The values of cells that have one each.

pub new-values : (dot : Dot) (values : List Value) → row_values (map (λ (value : Value). record { top = dot; values = value ∷ [] }) values) ≡ values
new-values dot [] = refl
new-values dot (value ∷ values) = ap (λ (rest : List Value). value ∷ rest) (new-values dot values)

pub new-ones : (dot : Dot) (values : List Value) → list_all has_one_value (map (λ (value : Value). record { top = dot; values = value ∷ [] }) values) ≡ true
new-ones dot [] = refl
new-ones dot (value ∷ values) = new-ones dot values

-- a cell after an update has the value after it
one-after : (dot : Dot) (settings : List Setting) (cell : Cell) (value : Value) → cell.values ≡ value ∷ [] → (set : Option Value) → (new_cell dot set cell).values ≡ unwrap_or set value ∷ []
one-after dot settings cell value is None = is
one-after dot settings cell value is (Some other) = refl

cell-value : (dot : Dot) (settings : List Setting) (n : ℕ) (cell : Cell) (values : List Value) → cell.values ≡ values → has_one_value cell ≡ true → (before after : List Value) → after ≡ map (value_after settings) (enumerate_from (n + 1) before)
    → (cell_after dot settings (n, cell)).values ++ after ≡ map (value_after settings) (enumerate_from n (values ++ before))
cell-value dot settings n cell [] is one before after same = absurd (grind (arith, nat_tests, rw is at one))
cell-value dot settings n cell (value ∷ []) is one before after same =
    ap (λ (values : List Value). values ++ after) (one-after dot settings cell value is (set_value settings n)) ∙ ap (λ (rest : List Value). value_after settings (n, value) ∷ rest) same
cell-value dot settings n cell (value ∷ next ∷ values) is one before after same = absurd (grind (arith, nat_tests, rw is at one))

pub updated-values : (dot : Dot) (settings : List Setting) (n : ℕ) (cells : List Cell) → list_all has_one_value cells ≡ true
    → row_values (map (cell_after dot settings) (enumerate_from n cells)) ≡ map (value_after settings) (enumerate_from n (row_values cells))
updated-values dot settings n [] one = refl
updated-values dot settings n (cell ∷ cells) one =
    let parts = and_parts (has_one_value cell) (list_all has_one_value cells) one in
    cell-value dot settings n cell cell.values refl parts.0 (row_values cells) (row_values (map (cell_after dot settings) (enumerate_from (n + 1) cells))) (updated-values dot settings (n + 1) cells parts.1)

pub updated-ones : (dot : Dot) (settings : List Setting) (n : ℕ) (cells : List Cell) → list_all has_one_value cells ≡ true → list_all has_one_value (map (cell_after dot settings) (enumerate_from n cells)) ≡ true
updated-ones dot settings n [] one = refl
updated-ones dot settings n (cell ∷ cells) one =
    let parts = and_parts (has_one_value cell) (list_all has_one_value cells) one in
    let here : (set : Option Value) → has_one_value (new_cell dot set cell) ≡ true = λ set. elim set as (λ s. has_one_value (new_cell dot s cell) ≡ true) [ None ↦ parts.0 | Some other ↦ refl ] in
    and_from _ _ (here (set_value settings n)) (updated-ones dot settings (n + 1) cells parts.1)

-- The identity value stays, and that of a new row is there.

placed : {X Y : Type 0} (f : ℕ × X → Y) (n : ℕ) (xs : List X) (i : ℕ) (x : X) → slice_get xs i ≡ Some x → slice_get (map f (enumerate_from n xs)) i ≡ Some (f (n + i, x))
placed f n [] zero x is = absurd (cc is)
placed f n [] (suc i) x is = absurd (cc is)
placed f n (y ∷ xs) zero x is = let same : y ≡ x = cc is in rw (same, add-zero) refl
placed f n (y ∷ xs) (suc i) x is = let place : n + 1 + i ≡ n + suc i = omega arith in rw (← place) (placed f (n + 1) xs i x is)

unset : (settings : List Setting) (column : ℕ) → list_any (λ (setting : Setting). setting.column == column) settings ≡ false → set_value settings column ≡ None
unset [] column none = refl
unset (setting ∷ settings) column none =
    let by : (b : Bool) → (setting.column == column) ≡ b → set_value (setting ∷ settings) column ≡ None = λ b. elim b as (λ v. (setting.column == column) ≡ v → set_value (setting ∷ settings) column ≡ None) [
      | true ↦ λ yes. absurd (cc (rw yes at none))
      | false ↦ λ no. rw no (unset settings column (rw no at none))
    ] in by (setting.column == column) refl

pub kept-set : (settings : List Setting) (column : ℕ) → list_any (λ (setting : Setting). setting.column == column) settings ≡ false
    → (values : List Value) (found : Option Value) → slice_get values column ≡ found → is_set found ≡ true → is_set (slice_get (map (value_after settings) (enumerate_from 0 values)) column) ≡ true
kept-set settings column none values None is set = absurd (cc set)
kept-set settings column none values (Some value) is set =
    rw (placed (value_after settings) 0 values column value is, zero-add, unset settings column none) set

pub new-set : (settings : List Setting) (column : ℕ) (identity : Value) → is_set (Some identity) ≡ true → (types : List ColumnType) (ty : ColumnType) → slice_get types column ≡ Some ty
    → is_set (slice_get (map (λ (p : ℕ × ColumnType). new_value (Some column) identity settings p.0) (enumerate_from 0 types)) column) ≡ true
new-set settings column identity set types ty is =
    let itself : (column == column) ≡ true = grind (arith, nat_tests) in
    rw (placed (λ (p : ℕ × ColumnType). new_value (Some column) identity settings p.0) 0 types column ty is, zero-add, itself) set
