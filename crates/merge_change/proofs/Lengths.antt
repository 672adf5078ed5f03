-- How long the row is that a change makes: its values alone count, and it stays far below what a u64 holds.
use Rattle.std.proofs.Common.{◌≡◌, ◌≤◌, ◌+◌, ◌*◌, ◌-◌, ◌^◌, ◌&&◌, ◌==◌, ℕ, zero, suc, Bool, true, false, List, [], ◌∷◌, ◌++◌, length, map, min, pos, find, Option, Some, None, option_map, unwrap_or, cond, if◌then◌else◌, get_or, ◌<◌, refl, sym, ap, ◌∙◌, subst, arith, length-append}
use Rattle.std.specs.Prelude.{nat_lt, nat_le}
use Rattle.std.specs.List.{enumerate_from, sum_by, flat_map}
use Rattle.std.specs.Option.{option_map_or}
use Rattle.std.proofs.lemmas.Bool.Decides.{nat_tests}
use Rattle.std.proofs.lemmas.Bool.{and_parts, leb-true}
use Rattle.merge_types.specs.Length.{stored_length, row_length}
use Rattle.merge_types.specs.Limits.{value_limit}
use Rattle.merge_types.specs.declared.changes.Setting.{Setting}
use Rattle.merge_types.specs.declared.changes.Tracking.{Tracking}
use Rattle.merge_types.specs.declared.changes.Tracking.TheVariants as tracking
use Rattle.merge_types.specs.declared.identifiers.Dot.{Dot}
use Rattle.merge_types.specs.declared.values.ColumnType.{ColumnType}
use Rattle.merge_types.specs.declared.values.Column.{Column}
use Rattle.merge_types.specs.declared.values.Value.{Value}
use Rattle.merge_types.specs.declared.values.Value.TheVariants.{Null, Int, Bit, Text, Day, Guid, Bytes}
use Rattle.merge_units.specs.Changes.{cell_after, cells_after, new_cell, new_cells, set_value, value_after}
use Rattle.merge_units.specs.Length as rows
use Rattle.merge_units.specs.Length.{value_count}
use Rattle.merge_units.specs.Version.{FitsTracking}
use Rattle.merge_units.proofs.Places.{one_value_each}
use Rattle.merge_units.specs.declared.version.Body.TheVariants.{Live}
use Rattle.merge_units.specs.declared.version.Cell.{Cell}
use Rattle.merge_schema.specs.Valid.{IsValid}
use Rattle.merge_schema.specs.declared.publication.Article.{Article}
use Rattle.merge_schema.specs.declared.publication.Publication.{Publication}
use Rattle.merge_batch.proofs.Tracking.{fits-test}
use Rattle.merge_schema.specs.Places.{article_at}
use Rattle.merge_batch.specs.Articles.{body_fits, cells_fit, cells_fit_tracking, fits_article, has_one_value, row_values, values_fit}
use Rattle.merge_types.specs.Fitting.{content_length}
use Rattle.merge_batch.specs.LocalChanges.{columns_at, identity_column, long_value, new_value, new_values, tracking_at, types_at}
use Rattle.merge_change.specs.Allowed.{HasFewColumns}
use Rattle.merge_batch.proofs.Firsts.{all-at}
use Rattle.std.proofs.lemmas.List.{length-map}
use Rattle.std.proofs.lemmas.List.Concat.{length-flat_map}
use Rattle.std.proofs.lemmas.List.Sums.{sum_by-cons}

pub row-cons : (value : Value) (values : List Value) → row_length (value ∷ values) ≡ stored_length value + row_length values
row-cons value values = sum_by-cons stored_length value values

pub rows-cons : (cell : Cell) (cells : List Cell) → rows.stored_length (cell ∷ cells) ≡ row_length cell.values + rows.stored_length cells
rows-cons cell cells = sum_by-cons (λ (one : Cell). row_length one.values) cell cells

-- The values of a new row count, in one cell or in many.

alone : (top : Dot) (values : List Value) → rows.stored_length (map (λ (value : Value). record { top = top; values = value ∷ [] }) values) ≡ row_length values
alone top [] = refl
alone top (value ∷ values) =
    omega (arith, rows-cons (record { top = top; values = value ∷ [] }) (map (λ (one : Value). record { top = top; values = one ∷ [] }) values), row-cons value [], row-cons value values, alone top values)

pub new-length : (t : Tracking) (dot : Dot) (values : List Value) → rows.stored_length (new_cells t dot values) ≡ row_length values
new-length tracking.Row dot values = omega arith
new-length tracking.ByColumn dot values = alone dot values

-- and those of the one cell after an update
pub one-length : (dot : Dot) (settings : List Setting) (cell : Cell) → rows.stored_length (cells_after tracking.Row dot settings (cell ∷ [])) ≡ row_length (map (value_after settings) (enumerate_from 0 cell.values))
one-length dot settings cell = omega arith

-- No value is long, and so no row is very long.

-- a value whose content is short is
short : (value : Value) → content_length value ≤ value_limit → stored_length value ≤ 8000
short Null le = omega arith
short (Int number) le = omega arith
short (Bit bit) le = omega arith
short (Text bytes) le = omega arith
short (Day day) le = omega arith
short (Guid number) le = omega arith
short (Bytes bytes) le = omega arith

-- what is long is found
abbrev pub is_long : Setting → Bool
is_long setting = nat_lt value_limit (content_length setting.value)

pub not-found : {X : Type 0} (test : X → Bool) (x : X) (xs : List X) → find test (x ∷ xs) ≡ None → (test x ≡ false) × (find test xs ≡ None)
not-found test x xs none = let by : (b : Bool) → test x ≡ b → (test x ≡ false) × (find test xs ≡ None) = λ b at. elim b as (λ v. test x ≡ v → (test x ≡ false) × (find test xs ≡ None)) [
  | true ↦ λ is. absurd (cc (rw is at none))
  | false ↦ λ is. (is, rw is at none)
] at in by (test x) refl

pub mapped-none : {X Y : Type 0} (f : X → Y) (found : Option X) → option_map f found ≡ None → found ≡ None
mapped-none f None none = refl
mapped-none f (Some x) none = absurd (cc none)

found-short : (settings : List Setting) → find is_long settings ≡ None → (column : ℕ) (value : Value) → set_value settings column ≡ Some value → stored_length value ≤ 8000
found-short [] none column value is = absurd (cc is)
found-short (setting ∷ settings) none column value is =
    let parts = not-found is_long setting settings none in
    let here : content_length setting.value ≤ value_limit = grind (arith, nat_tests, parts.0) in
    let by : (b : Bool) → (setting.column == column) ≡ b → stored_length value ≤ 8000 = λ b at. elim b as (λ v. (setting.column == column) ≡ v → stored_length value ≤ 8000) [
      | true ↦ λ yes. let same : setting.value ≡ value = cc (rw yes at is) in subst (λ (v : Value). stored_length v ≤ 8000) same (short setting.value here)
      | false ↦ λ no. found-short settings parts.1 column value (rw no at is)
    ] at in by (setting.column == column) refl

pub set-short : (settings : List Setting) → long_value settings ≡ None → (column : ℕ) (value : Value) → set_value settings column ≡ Some value → stored_length value ≤ 8000
set-short settings none = found-short settings (mapped-none _ (find is_long settings) none)

-- the value of a column after a change: what is set, or what was there
unset-short : (settings : List Setting) → long_value settings ≡ None → (column : ℕ) (value : Value) → stored_length value ≤ 8000 → (set : Option Value) → set_value settings column ≡ set → stored_length (unwrap_or set value) ≤ 8000
unset-short settings none column value le None is = le
unset-short settings none column value le (Some other) is = set-short settings none column other is

after-short : (settings : List Setting) → long_value settings ≡ None → (column : ℕ) (value : Value) → stored_length value ≤ 8000 → stored_length (value_after settings (column, value)) ≤ 8000
after-short settings none column value le = unset-short settings none column value le (set_value settings column) refl

new-short : (identity : Option ℕ) (settings : List Setting) → long_value settings ≡ None → (column : ℕ) → stored_length (new_value identity (Int (pos 0)) settings column) ≤ 8000
new-short None settings none column = unset-short settings none column Null (omega arith) (set_value settings column) refl
new-short (Some place) settings none column = let by : (b : Bool) → stored_length (if b then Int (pos 0) else unwrap_or (set_value settings column) Null) ≤ 8000 = λ b. elim b as (λ v. stored_length (if v then Int (pos 0) else unwrap_or (set_value settings column) Null) ≤ 8000) [
  | true ↦ omega arith
  | false ↦ unset-short settings none column Null (omega arith) (set_value settings column) refl
] in by (column == place)

new-bound : (identity : Option ℕ) (settings : List Setting) → long_value settings ≡ None → (n : ℕ) (types : List ColumnType)
    → row_length (map (λ (place : ℕ × ColumnType). new_value identity (Int (pos 0)) settings place.0) (enumerate_from n types)) ≤ 8000 * length types
new-bound identity settings none n [] = omega arith
new-bound identity settings none n (ty ∷ types) =
    omega (
      arith,
      row-cons (new_value identity (Int (pos 0)) settings n) (map (λ (place : ℕ × ColumnType). new_value identity (Int (pos 0)) settings place.0) (enumerate_from (n + 1) types)),
      new-short identity settings none n,
      new-bound identity settings none (n + 1) types,
    )

values-bound : (settings : List Setting) → long_value settings ≡ None → (n : ℕ) (values : List Value) → row_length values ≤ 8000
    → row_length (map (value_after settings) (enumerate_from n values)) ≤ 8000 * length values
values-bound settings none n [] le = omega arith
values-bound settings none n (value ∷ values) le =
    let whole = row-cons value values in
    let first : stored_length value ≤ 8000 = omega (arith, whole) in
    let rest : row_length values ≤ 8000 = omega (arith, whole) in
    omega (arith, row-cons (value_after settings (n, value)) (map (value_after settings) (enumerate_from (n + 1) values)), after-short settings none n value first, values-bound settings none (n + 1) values rest)

-- the cell of a column
cell-short : (dot : Dot) (settings : List Setting) → long_value settings ≡ None → (column : ℕ) (cell : Cell) → row_length cell.values ≤ 8000 → (set : Option Value) → set_value settings column ≡ set → row_length (new_cell dot set cell).values ≤ 8000
cell-short dot settings none column cell le None is = le
cell-short dot settings none column cell le (Some value) is = omega (arith, row-cons value [], set-short settings none column value is)

cells-bound : (dot : Dot) (settings : List Setting) → long_value settings ≡ None → (n : ℕ) (cells : List Cell) → rows.stored_length cells ≤ 8000
    → rows.stored_length (map (cell_after dot settings) (enumerate_from n cells)) ≤ 8000 * length cells
cells-bound dot settings none n [] le = omega arith
cells-bound dot settings none n (cell ∷ cells) le =
    let whole = rows-cons cell cells in
    let first : row_length cell.values ≤ 8000 = omega (arith, whole) in
    let rest : rows.stored_length cells ≤ 8000 = omega (arith, whole) in
    omega (
      arith,
      rows-cons (cell_after dot settings (n, cell)) (map (cell_after dot settings) (enumerate_from (n + 1) cells)),
      cell-short dot settings none n cell first (set_value settings n) refl,
      cells-bound dot settings none (n + 1) cells rest,
    )

-- What a row that fits its article has.

pub record Fitting (publication : Publication) (place : ℕ) (cells : List Cell) : Type 0 where
  pub tracking : FitsTracking (tracking_at publication place) cells
  pub count : length (row_values cells) ≡ length (columns_at publication place)
  pub low : rows.stored_length cells ≤ 8000

length-fit : (columns : List Column) (values : List Value) → values_fit columns values ≡ true → length values ≡ length columns
length-fit [] [] fit = refl
length-fit [] (value ∷ values) fit = absurd (cc fit)
length-fit (column ∷ columns) [] fit = absurd (cc fit)
length-fit (column ∷ columns) (value ∷ values) fit = grind (arith, fit, length-fit columns values)

fitting-at : (publication : Publication) (place : ℕ) (cells : List Cell) (found : Option Article) → article_at publication place ≡ found → option_map_or (body_fits (Live cells)) found false ≡ true → Fitting publication place cells
fitting-at publication place cells None is fits = absurd (cc fits)
fitting-at publication place cells (Some article) is fits =
    let outer = and_parts _ _ fits in
    let inner = and_parts _ _ outer.0 in
    let first = and_parts _ _ inner.0 in
    record {
      tracking = rw is (fits-test article.tracking cells first.0);
      count = rw is (length-fit article.columns (row_values cells) first.1);
      low = leb-true _ _ inner.1;
    }

pub fitting : (publication : Publication) (place : ℕ) (cells : List Cell) → fits_article publication place (Live cells) ≡ true → Fitting publication place cells
fitting publication place cells fits = fitting-at publication place cells (article_at publication place) refl fits

few-at : (publication : Publication) → HasFewColumns publication → (place : ℕ) (found : Option Article) → article_at publication place ≡ found → length (unwrap_or (option_map (λ (article : Article). article.columns) found) []) ≤ 64
few-at publication few place None is = omega arith
few-at publication few place (Some article) is = all-at (λ (article : Article). length article.columns ≤ 64) publication.articles few place article is

-- a valid publication has few columns
pub valid-few : (resolvers : ℕ) (publication : Publication) → IsValid resolvers publication → HasFewColumns publication
valid-few resolvers publication valid i d lt = (valid.valid_articles i d lt).some_columns.1

pub few-columns : (publication : Publication) → HasFewColumns publication → (place : ℕ) → length (columns_at publication place) ≤ 64
few-columns publication few place = few-at publication few place (article_at publication place) refl

-- The row after an update is far shorter than what a u64 holds, and so is a new one.

low-by : (t : Tracking) (dot : Dot) (settings : List Setting) → long_value settings ≡ None → (cells : List Cell) → FitsTracking t cells → length (row_values cells) ≤ 64 → rows.stored_length cells ≤ 8000
    → rows.stored_length (cells_after t dot settings cells) ≤ 512000
low-by tracking.Row dot settings none [] one few low = absurd (omega arith)
low-by tracking.Row dot settings none (cell ∷ []) one few low = (let low-cell : row_length cell.values ≤ 8000 = omega arith in omega (arith, one-length dot settings cell, values-bound settings none 0 cell.values low-cell, length-append cell.values []))
low-by tracking.Row dot settings none (cell ∷ next ∷ cells) one few low = absurd (omega arith)
low-by tracking.ByColumn dot settings none cells each few low =
    let values : length (row_values cells) ≡ value_count cells = length-flat_map (λ (cell : Cell). cell.values) cells in
    omega (arith, cells-bound dot settings none 0 cells low, one_value_each cells each)

pub update-low : (publication : Publication) → HasFewColumns publication → (place : ℕ) (settings : List Setting) → long_value settings ≡ None → (cells : List Cell) → Fitting publication place cells
    → (dot : Dot) → rows.stored_length (cells_after (tracking_at publication place) dot settings cells) ≤ 512000
update-low publication few place settings none cells fits dot =
    low-by (tracking_at publication place) dot settings none cells fits.tracking (omega (arith, fits.count, few-columns publication few place)) fits.low

pub new-low : (publication : Publication) → HasFewColumns publication → (place : ℕ) (settings : List Setting) → long_value settings ≡ None
    → row_length (new_values publication place (Int (pos 0)) settings) ≤ 512000
new-low publication few place settings none =
    let types : length (types_at publication place) ≡ length (columns_at publication place) = length-map (columns_at publication place) (λ (column : Column). column.ty) in
    omega (arith, new-bound (identity_column publication place) settings none 0 (types_at publication place), few-columns publication few place)

-- a number so low is told whole
pub told-whole : (n : ℕ) → n ≤ 512000 → min n (2 ^ 64 - 1) ≡ n
told-whole n le = omega arith

-- with row tracking there is one cell
pub one-cell : (dot : Dot) (settings : List Setting) (cells : List Cell) (cell : Cell) → length cells ≡ 1 → cell ≡ get_or cells 0 cell
    → rows.stored_length (cells_after tracking.Row dot settings cells) ≡ row_length (map (value_after settings) (enumerate_from 0 cell.values))
one-cell dot settings [] cell one is = absurd (omega arith)
one-cell dot settings (first ∷ []) cell one is = rw is (one-length dot settings first)
one-cell dot settings (first ∷ next ∷ cells) cell one is = absurd (omega arith)
