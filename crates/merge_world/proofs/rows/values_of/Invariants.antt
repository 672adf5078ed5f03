use Rattle.std.specs.List.{flat_map}
use Rattle.std.specs.Prelude.{◌≡◌, take}
use Rattle.merge_units.specs.declared.version.Cell.{Cell}
use Rattle.merge_world.proofs.rows.values_of.Given as goal

abbrev pub invariant-loop-cell : goal.invariant-loop-cell
invariant-loop-cell l = l.values ≡ flat_map (λ (cell : Cell). cell.values) (take l.cell-index l.cells)
