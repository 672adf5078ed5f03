use Rattle.std.proofs.Common.{◌≡◌, map, take}
use Rattle.merge_types.specs.declared.values.Column.{Column}
use Rattle.merge_resolve.proofs.question.types_of.Given as goal

-- the types so far
abbrev pub invariant-loop-column : goal.invariant-loop-column
invariant-loop-column l = l.types ≡ map (λ (column : Column). column.ty) (take l.column-index l.columns)
