use Rattle.std.proofs.Common.{◌≡◌, ◌++◌, take}
use Rattle.std.specs.Prelude.{flat_map}
use Rattle.merge_units.specs.declared.version.Cell.{Cell}
use Rattle.merge_steps.proofs.edits.live_values.Given as goal

abbrev pub invariant-loop-cell : goal.invariant-loop-cell
invariant-loop-cell l = l.values ≡ flat_map (λ (cell : Cell). cell.values) (take l.cell-index l.cell-items)

abbrev pub invariant-loop-value : goal.invariant-loop-value
invariant-loop-value l = l.values ≡ l.initial.values ++ take l.value-index l.value-items
