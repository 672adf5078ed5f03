-- A row that fits its article is right in its shape, its values and its length.
use Rattle.std.specs.List.{AllByRecursion, list_all}
use Rattle.std.specs.Option.{option_and_then, option_map_or}
use Rattle.std.specs.Prelude.{Bool, List, None, Option, Some, [], false, is_some, length, map, nat_le, option_map, refl, slice_get, suc, true, unwrap_or, ℕ, ◌&&◌, ◌++◌, ◌+◌, ◌≡◌, ◌≤◌, ◌∷◌}
use Rattle.std.proofs.Common.{ap, append-nil, arith, length-append, subst, ◌∙◌}
use Rattle.std.proofs.lemmas.Bool.Decides.{nat_tests}
use Rattle.std.proofs.lemmas.List.{length-map}
use Rattle.merge_types.specs.Fitting.{fits_column}
use Rattle.merge_types.specs.Limits.{row_limit}
use Rattle.merge_types.specs.declared.changes.Tracking.{Tracking}
use Rattle.merge_types.specs.declared.changes.Tracking.TheVariants as tracking
use Rattle.merge_types.specs.declared.values.ColumnType.{ColumnType}
use Rattle.merge_types.specs.declared.values.Column.{Column}
use Rattle.merge_types.specs.declared.values.Value.{Value}
use Rattle.merge_units.specs.Length.{stored_length}
use Rattle.merge_units.specs.declared.version.Body.{Body}
use Rattle.merge_units.specs.declared.version.Body.TheVariants.{Dead, Live}
use Rattle.merge_units.specs.declared.version.Cell.{Cell}
use Rattle.merge_resolve.specs.Counted.{fits_place}
use Rattle.merge_schema.specs.Places.{article_at}
use Rattle.merge_schema.specs.declared.publication.Article.{Article}
use Rattle.merge_schema.specs.declared.publication.Identity.{Identity}
use Rattle.merge_schema.specs.declared.publication.Publication.{Publication}
use Rattle.merge_types.specs.declared.row_key.RowKey.{RowKey as Key}
use Rattle.merge_batch.specs.Articles.{body_fits, cells_fit, cells_fit_tracking, fits_article, has_article, has_one_value, identity_is_set, is_set, row_values, values_fit}
use Rattle.merge_model.proofs.Lists.Finding.{some_same}
use Rattle.merge_owed.proofs.CellValues.{HasColumns, HaveOne}
use Rattle.merge_honest.proofs.RowsFit.{BodyIsRight, RightAt}
use Rattle.merge_honest.proofs.TypedCells.{CellsFrom, CellsTyped, ValuesFrom}
use Rattle.merge_honest.proofs.FittingRows.{place-fits}

-- The shape.

values-long : (columns : List Column) (values : List Value) → values_fit columns values ≡ true → length values ≡ length columns
values-long [] [] fits = refl
values-long [] (value ∷ values) fits = absurd cc
values-long (column ∷ columns) [] fits = absurd cc
values-long (column ∷ columns) (value ∷ values) fits = (let rest = values-long columns values (grind (arith, fits)) in omega (arith, rest))

ones-have : (cells : List Cell) → list_all has_one_value cells ≡ true → HaveOne cells
ones-have [] all = tt
ones-have (cell ∷ cells) all = ((let here : has_one_value cell ≡ true = grind (arith, all) in grind (arith, nat_tests, here)), ones-have cells (grind (arith, all)))

ones-long : (cells : List Cell) → HaveOne cells → length (row_values cells) ≡ length cells
ones-long [] ones = refl
ones-long (cell ∷ cells) ones =
    let rest = ones-long cells ones.1 in
    let one = ones.0 in
    let all : length (cell.values ++ row_values cells) ≡ length cell.values + length (row_values cells) = length-append cell.values (row_values cells) in
    omega (arith, rest, one, all)

abbrev types_of : List Column → List ColumnType
types_of columns = map (λ (column : Column). column.ty) columns

shaped : (tr : Tracking) (columns : List Column) (cells : List Cell) → cells_fit_tracking tr cells ≡ true → values_fit columns (row_values cells) ≡ true → HasColumns tr (length (types_of columns)) cells
shaped tracking.Row columns [] tracked right = absurd cc
shaped tracking.Row columns (cell ∷ []) tracked right =
    let long = values-long columns (row_values (cell ∷ [])) right in
    let same : length (cell.values ++ []) ≡ length cell.values = ap (λ (l : List Value). length l) (append-nil cell.values) in
    let types = length-map columns (λ (column : Column). column.ty) in
    omega (arith, long, same, types)
shaped tracking.Row columns (cell ∷ other ∷ cells) tracked right = (let one : length (cell ∷ other ∷ cells) ≡ 1 = grind (arith, nat_tests, tracked) in absurd (omega (arith, one)))
shaped tracking.ByColumn columns cells tracked right =
    let ones = ones-have cells tracked in
    let long = values-long columns (row_values cells) right in
    let all = ones-long cells ones in
    let types = length-map columns (λ (column : Column). column.ty) in
    (omega (arith, long, all, types), ones)

-- The values.

abbrev At : List ColumnType → ℕ → List Column → Type 0
At types n columns = (k : ℕ) → slice_get types (n + k) ≡ slice_get (types_of columns) k

at-first : (types : List ColumnType) (n : ℕ) (column : Column) (columns : List Column) → At types n (column ∷ columns) → slice_get types n ≡ Some column.ty
at-first types n column columns at = ap (λ (place : ℕ). slice_get types place) (let same : n ≡ n + 0 = omega arith in same) ∙ at 0

at-later : (types : List ColumnType) (n : ℕ) (column : Column) (columns : List Column) → At types n (column ∷ columns) → At types (n + 1) columns
at-later types n column columns at = λ k. ap (λ (place : ℕ). slice_get types place) (let same : n + 1 + k ≡ n + suc k = omega arith in same) ∙ at (suc k)

values-from : (types : List ColumnType) (n : ℕ) (columns : List Column) (values : List Value) → At types n columns → values_fit columns values ≡ true → ValuesFrom (fits_place types) n values
values-from types n columns [] at fits = tt
values-from types n [] (value ∷ values) at fits = absurd cc
values-from types n (column ∷ columns) (value ∷ values) at fits = (
  place-fits types n column.ty value (at-first types n column columns at) (grind (arith, fits)),
  values-from types (n + 1) columns values (at-later types n column columns at) (grind (arith, fits)),
)

-- one value, and the columns behind its own
record Behind (types : List ColumnType) (n : ℕ) (values rest : List Value) : Type 0 where
  here : AllByRecursion (λ (value : Value). fits_place types n value ≡ true) values
  columns : List Column
  at : At types (n + 1) columns
  fits : values_fit columns rest ≡ true

one-from : (types : List ColumnType) (n : ℕ) (columns : List Column) (values rest : List Value) → length values ≡ 1 → At types n columns → values_fit columns (values ++ rest) ≡ true → Behind types n values rest
one-from types n columns [] rest one at fits = absurd cc
one-from types n columns (value ∷ other ∷ values) rest one at fits = absurd (omega (arith, one))
one-from types n [] (value ∷ []) rest one at fits = absurd cc
one-from types n (column ∷ columns) (value ∷ []) rest one at fits = record {
  here = (place-fits types n column.ty value (at-first types n column columns at) (grind (arith, fits)), tt);
  columns = columns;
  at = at-later types n column columns at;
  fits = grind (arith, fits);
}

cells-from : (types : List ColumnType) (n : ℕ) (columns : List Column) (cells : List Cell) → HaveOne cells → At types n columns → values_fit columns (row_values cells) ≡ true → CellsFrom (fits_place types) n cells
cells-from types n columns [] ones at fits = tt
cells-from types n columns (cell ∷ cells) ones at fits =
    let b : Behind types n cell.values (row_values cells) = one-from types n columns cell.values (row_values cells) ones.0 at fits in
    (b.here, cells-from types (n + 1) b.columns cells ones.1 b.at b.fits)

typed : (tr : Tracking) (columns : List Column) (cells : List Cell) → cells_fit_tracking tr cells ≡ true → values_fit columns (row_values cells) ≡ true → CellsTyped (fits_place (types_of columns)) tr cells
typed tracking.Row columns [] tracked right = tt
typed tracking.Row columns (cell ∷ []) tracked right =
    values-from (types_of columns) 0 columns cell.values (λ k. ap (λ (place : ℕ). slice_get (types_of columns) place) (let same : 0 + k ≡ k = omega arith in same)) (subst (λ (values : List Value). values_fit columns values ≡ true) (append-nil cell.values) right)
typed tracking.Row columns (cell ∷ other ∷ cells) tracked right = (let one : length (cell ∷ other ∷ cells) ≡ 1 = grind (arith, nat_tests, tracked) in absurd (omega (arith, one)))
typed tracking.ByColumn columns cells tracked right =
    cells-from (types_of columns) 0 columns cells (ones-have cells tracked) (λ k. ap (λ (place : ℕ). slice_get (types_of columns) place) (let same : 0 + k ≡ k = omega arith in same)) right

-- The identity value.

set-of : (found : Option Identity) (values : List Value) → identity_is_set found values ≡ true → (k : ℕ) → option_map (λ (identity : Identity). identity.column) found ≡ Some k → is_set (slice_get values k) ≡ true
set-of None values set k at = absurd cc
set-of (Some identity) values set k at = subst (λ (n : ℕ). is_set (slice_get values n) ≡ true) (some_same identity.column k at) set

-- Together.

four : (a b c d : Bool) → (a && b && c && d) ≡ true → (a ≡ true) × (b ≡ true) × (c ≡ true) × (d ≡ true)
four a b c d is = (grind (arith, is), grind (arith, is), grind (arith, is), grind (arith, is))

cells-right : (article : Article) (cells : List Cell) → cells_fit article cells ≡ true → BodyIsRight article.tracking (types_of article.columns) (option_map (λ (identity : Identity). identity.column) article.identity) (Live cells)
cells-right article cells fits =
    let parts = four (cells_fit_tracking article.tracking cells) (values_fit article.columns (row_values cells)) (nat_le (stored_length cells) row_limit) (identity_is_set article.identity (row_values cells)) fits in
    let short = parts.2 in
    record {
      shaped = (shaped article.tracking article.columns cells parts.0 parts.1, λ column is some. set-of article.identity (row_values cells) parts.3 column is);
      typed = typed article.tracking article.columns cells parts.0 parts.1;
      short = (let low : stored_length cells ≤ row_limit = grind (arith, nat_tests, short) in low);
    }

body-right : (article : Article) (body : Body) → body_fits body article ≡ true → BodyIsRight article.tracking (types_of article.columns) (option_map (λ (identity : Identity). identity.column) article.identity) body
body-right article (Live cells) fits = cells-right article cells fits
body-right article (Dead top) fits = record { shaped = tt; typed = tt; short = omega arith }

found-right : (found : Option Article) (body : Body) → option_map_or (body_fits body) found false ≡ true
    → BodyIsRight (unwrap_or (option_map (λ (article : Article). article.tracking) found) tracking.Row) (types_of (unwrap_or (option_map (λ (article : Article). article.columns) found) [])) (option_map (λ (identity : Identity). identity.column) (option_and_then (λ (article : Article). article.identity) found)) body
found-right None body fits = absurd cc
found-right (Some article) body fits = body-right article body fits

pub fits-right : (publication : Publication) (key : Key) (body : Body) → fits_article publication key.article body ≡ true → RightAt publication key body
fits-right publication key body fits = found-right (article_at publication key.article) body fits

found-there : (found : Option Article) (body : Body) → option_map_or (body_fits body) found false ≡ true → is_some found ≡ true
found-there None body fits = absurd cc
found-there (Some article) body fits = refl

pub fits-there : (publication : Publication) (place : ℕ) (body : Body) → fits_article publication place body ≡ true → has_article publication place ≡ true
fits-there publication place body fits = found-there (article_at publication place) body fits
