-- what the cells so far take
use Rattle.std.proofs.Common.{◌≡◌, ◌-◌, ◌^◌, map, min, take}
use Rattle.std.specs.List.{enumerate_from}
use Rattle.merge_types.specs.declared.identifiers.Dot.{Dot}
use Rattle.merge_units.specs.Changes.{cell_after}
use Rattle.merge_units.specs.Length.{stored_length}
use Rattle.merge_change.proofs.length.cells_length.Given as goal

abbrev pub invariant-loop-column : goal.invariant-loop-column
invariant-loop-column l = (dot : Dot) → l.total ≡ min (stored_length (map (cell_after dot l.settings) (take l.column (enumerate_from 0 l.cells)))) (2 ^ 64 - 1)
