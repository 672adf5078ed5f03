-- Whether a row fits its article.
use Rattle.std.specs.Prelude.{ℕ, ◌==◌, ◌&&◌, Bool, true, false, nat_le, List, [], ◌∷◌, length, slice_get, Option, Some, None, is_some}
use Rattle.std.specs.List.{list_all, flat_map}
use Rattle.std.specs.Option.{option_map_or}
use Rattle.merge_types.specs.Fitting.{fits_column}
use Rattle.merge_types.specs.Limits.{row_limit}
use Rattle.merge_types.specs.declared.Column.{Column}
use Rattle.merge_types.specs.declared.Tracking.{Tracking}
use Rattle.merge_types.specs.declared.Tracking.TheVariants as tracking
use Rattle.merge_types.specs.declared.Value.{Value}
use Rattle.merge_types.specs.declared.Value.TheVariants.{Null}
use Rattle.merge_units.specs.declared.version.Cell.{Cell}
use Rattle.merge_units.specs.declared.version.Body.{Body}
use Rattle.merge_units.specs.declared.version.Body.TheVariants.{Live, Dead}
use Rattle.merge_units.specs.Length.{stored_length}
use Rattle.merge_schema.specs.declared.publication.Publication.{Publication}
use Rattle.merge_schema.specs.declared.publication.Article.{Article}
use Rattle.merge_schema.specs.declared.publication.Identity.{Identity}
use Rattle.merge_schema.specs.Places.{article_at}

-- there is one value for each column, which fits it
abbrev pub values_fit : List Column → List Value → Bool
values_fit [] [] = true
values_fit (column ∷ columns) (value ∷ values) = fits_column column.ty value && values_fit columns values
values_fit _ _ = false

-- with row tracking one cell has all values, else each cell has one value
abbrev pub has_one_value : Cell → Bool
has_one_value cell = length cell.values == 1

abbrev pub cells_fit_tracking : Tracking → List Cell → Bool
cells_fit_tracking tracking.Row cells = length cells == 1
cells_fit_tracking tracking.ByColumn cells = list_all has_one_value cells

-- the values of a row in column order
abbrev pub row_values : List Cell → List Value
row_values cells = flat_map (λ (cell : Cell). cell.values) cells

-- a value that is there and is not Null
abbrev pub is_set : Option Value → Bool
is_set None = false
is_set (Some Null) = false
is_set (Some value) = true

-- the value of the identity column is not Null, where the article has such a column
abbrev pub identity_is_set : Option Identity → List Value → Bool
identity_is_set None values = true
identity_is_set (Some identity) values = is_set (slice_get values identity.column)

-- live cells fit: in number, types and lengths, the row has at most 8,000 bytes, and its identity value is there
abbrev pub cells_fit : Article → List Cell → Bool
cells_fit article cells =
    cells_fit_tracking article.tracking cells
    && values_fit article.columns (row_values cells)
    && nat_le (stored_length cells) row_limit
    && identity_is_set article.identity (row_values cells)

-- of a deleted row nothing is asked
abbrev pub body_fits : Body → Article → Bool
body_fits (Live cells) article = cells_fit article cells
body_fits (Dead top) article = true

-- the article exists
abbrev pub has_article : Publication → ℕ → Bool
has_article publication place = is_some (article_at publication place)

-- and the row fits it
abbrev pub fits_article : Publication → ℕ → Body → Bool
fits_article publication place body = option_map_or (body_fits body) (article_at publication place) false
