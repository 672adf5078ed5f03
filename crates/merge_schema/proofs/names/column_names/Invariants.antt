use Rattle.std.proofs.Common.{◌≡◌, take, map}
use Rattle.merge_types.specs.declared.values.Column.{Column}
use Rattle.merge_schema.proofs.names.column_names.Given as goal

abbrev pub invariant-loop-column : goal.invariant-loop-column
invariant-loop-column l = l.names ≡ map (λ (x : Column). x.name) (take l.column-index l.columns)
