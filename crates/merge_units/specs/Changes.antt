-- What a local change makes of a row.
use Rattle.std.specs.Prelude.{ℕ, ◌<◌, ◌==◌, List, [], ◌∷◌, map, find, Option, Some, None, option_map, unwrap_or, AllPairs, All}
use Rattle.std.specs.List.{enumerate_from}
use Rattle.merge_types.specs.declared.Dot.{Dot}
use Rattle.merge_types.specs.declared.Value.{Value}
use Rattle.merge_types.specs.declared.Setting.{Setting}
use Rattle.merge_types.specs.declared.Tracking.{Tracking}
use Rattle.merge_types.specs.declared.Tracking.TheVariants as tracking
use Rattle.merge_lineage.specs.Lineage.{with_dot}
use Rattle.merge_units.specs.declared.version.Cell.{Cell}
use Rattle.merge_units.specs.declared.version.Body.TheVariants.{Live, Dead}
use Rattle.merge_units.specs.declared.version.Version.{Version}
use Rattle.merge_units.specs.Version.{cells_of}

-- the value that a column is set to, where it is set
abbrev pub set_value : List Setting → ℕ → Option Value
set_value edits column = option_map (λ (edit : Setting). edit.value) (find (λ (edit : Setting). edit.column == column) edits)

-- with row tracking the one cell gets each set value, and the change as its top
abbrev pub value_after : List Setting → ℕ × Value → Value
value_after edits place = unwrap_or (set_value edits place.0) place.1

abbrev pub whole_row_after : Dot → List Setting → Cell → Cell
whole_row_after dot edits cell = record { top = dot; values = map (value_after edits) (enumerate_from 0 cell.values) }

-- else the cell of each set column gets the set value, and the change as its top; the other cells stay
abbrev pub new_cell : Dot → Option Value → Cell → Cell
new_cell dot None cell = cell
new_cell dot (Some value) cell = record { top = dot; values = value ∷ [] }

abbrev pub cell_after : Dot → List Setting → ℕ × Cell → Cell
cell_after dot edits place = new_cell dot (set_value edits place.0) place.1

abbrev pub cells_after : Tracking → Dot → List Setting → List Cell → List Cell
cells_after tracking.Row dot edits cells = map (whole_row_after dot edits) cells
cells_after tracking.ByColumn dot edits cells = map (cell_after dot edits) (enumerate_from 0 cells)

-- the cells of a new row
abbrev pub new_cells : Tracking → Dot → List Value → List Cell
new_cells tracking.Row dot values = record { top = dot; values = values } ∷ []
new_cells tracking.ByColumn dot values = map (λ (value : Value). record { top = dot; values = value ∷ [] }) values

-- the version that an insert of these values makes
abbrev pub new_row : Dot → List Value → Tracking → Version
new_row dot values tracking = record { lineage = with_dot dot []; body = Live (new_cells tracking dot values) }

-- the version after an update of these columns
abbrev pub changed : Version → Dot → List Setting → Tracking → Version
changed version dot edits tracking = record { lineage = with_dot dot version.lineage; body = Live (cells_after tracking dot edits (cells_of version.body)) }

-- the version after a delete
abbrev pub removed : Version → Dot → Version
removed version dot = record { lineage = with_dot dot version.lineage; body = Dead dot }

-- the columns ascend, so none is set twice
abbrev pub ColumnsAscend : List Setting → Type 0
ColumnsAscend edits = AllPairs (λ (a b : Setting). a.column < b.column) edits

-- and each is one of so many
abbrev pub AscendBelow : ℕ → List Setting → Type 0
AscendBelow count edits = ColumnsAscend edits × All (λ (edit : Setting). edit.column < count) edits
