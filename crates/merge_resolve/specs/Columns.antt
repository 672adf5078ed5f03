-- The values of the column that an article names for its resolver.
use Rattle.std.specs.Prelude.{ℕ, List, [], Option, Some, None, slice_get}
use Rattle.merge_types.specs.declared.Value.{Value}
use Rattle.merge_resolve.specs.declared.case.CaseKind.{CaseKind}
use Rattle.merge_resolve.specs.declared.case.CaseKind.TheVariants as kind
use Rattle.merge_units.specs.declared.version.Cell.{Cell}
use Rattle.merge_units.specs.declared.version.Body.{Body}
use Rattle.merge_units.specs.declared.version.Body.TheVariants.{Live}

-- the value at a place of a cell
abbrev pub cell_value : Option Cell → ℕ → Option Value
cell_value None at = None
cell_value (Some cell) at = slice_get cell.values at

-- with row tracking the one cell has all values; with column tracking each column has its own cell.
-- Where one body is dead no column is compared
abbrev pub value_in : CaseKind → List Cell → ℕ → Option Value
value_in kind.ByRow cells column = cell_value (slice_get cells 0) column
value_in kind.ByColumn cells column = cell_value (slice_get cells column) 0
value_in kind.Delete cells column = None

-- the value of the column, where the case names one that the body has
abbrev pub body_value : CaseKind → Body → Option ℕ → Option Value
body_value kind (Live cells) (Some column) = value_in kind cells column
body_value kind _ _ = None

-- all values of a row, with row tracking
abbrev pub values_of : Option Cell → List Value
values_of None = []
values_of (Some cell) = cell.values

abbrev pub first_values : List Cell → List Value
first_values cells = values_of (slice_get cells 0)
