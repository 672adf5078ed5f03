-- what the values so far take
use Rattle.std.proofs.Common.{◌≡◌, ◌-◌, ◌^◌, map, min, take}
use Rattle.std.specs.List.{enumerate_from}
use Rattle.merge_types.specs.Length.{row_length}
use Rattle.merge_units.specs.Changes.{value_after}
use Rattle.merge_change.proofs.length.values_length.Given as goal

abbrev pub invariant-loop-column : goal.invariant-loop-column
invariant-loop-column l = l.total ≡ min (row_length (map (value_after l.settings) (take l.column (enumerate_from 0 l.values)))) (2 ^ 64 - 1)
