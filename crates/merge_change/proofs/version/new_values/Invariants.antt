-- the values of the columns so far
use Rattle.std.proofs.Common.{◌≡◌, ℕ, map, take}
use Rattle.std.specs.List.{enumerate_from}
use Rattle.merge_types.specs.declared.values.ColumnType.{ColumnType}
use Rattle.merge_batch.specs.LocalChanges.{new_value, types_at}
use Rattle.merge_change.proofs.version.new_values.Given as goal

abbrev pub invariant-loop-column : goal.invariant-loop-column
invariant-loop-column l = l.values ≡ map (λ (place : ℕ × ColumnType). new_value l.identity_column l.identity l.settings place.0) (take l.column (enumerate_from 0 (types_at l.publication l.place)))
