-- what the columns so far take
use Rattle.std.proofs.Common.{◌≡◌, ◌-◌, ◌^◌, ℕ, map, min, pos, take}
use Rattle.std.specs.List.{enumerate_from}
use Rattle.merge_types.specs.Length.{row_length}
use Rattle.merge_types.specs.declared.values.ColumnType.{ColumnType}
use Rattle.merge_types.specs.declared.values.Value.TheVariants.{Int}
use Rattle.merge_batch.specs.LocalChanges.{new_value, types_at}
use Rattle.merge_change.proofs.length.new_length.Given as goal

abbrev pub invariant-loop-column : goal.invariant-loop-column
invariant-loop-column l = l.total ≡ min (row_length (map (λ (place : ℕ × ColumnType). new_value l.identity (Int (pos 0)) l.settings place.0) (take l.column (enumerate_from 0 (types_at l.publication l.place))))) (2 ^ 64 - 1)
