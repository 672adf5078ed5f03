use Rattle.std.proofs.Common.{◌≡◌, map, take}
use Rattle.std.specs.List.{AllByRecursion}
use Rattle.serde_json.specs.View.{view}
use Rattle.merge_json.specs.Rows.{cell_at}
use Rattle.merge_json.specs.Written.{ReadsBack, cell_data}
use Rattle.merge_json.proofs.written.cells_value.Given as goal

abbrev pub invariant-loop-cell : goal.invariant-loop-cell
invariant-loop-cell l =
    (map view l.values.items ≡ map cell_data (take l.cell-index l.cells))
    × AllByRecursion (ReadsBack cell_at cell_data) (take l.cell-index l.cells)
