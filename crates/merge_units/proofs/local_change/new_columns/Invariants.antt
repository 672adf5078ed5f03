use Rattle.std.proofs.Common.{◌≡◌, ◌++◌, ◌∷◌, [], map}
use Rattle.std.specs.Vec.Iter.{into_iter_items}
use Rattle.merge_types.specs.declared.Value.{Value}
use Rattle.merge_units.proofs.local_change.new_columns.Given as goal

-- the cells so far and those of the values that are left are all
abbrev pub invariant-loop-value : goal.invariant-loop-value
invariant-loop-value l = l.cells.items ++ map (λ (value : Value). record { top = l.dot; values = value ∷ [] }) (into_iter_items l.value-iterator) ≡ map (λ (value : Value). record { top = l.dot; values = value ∷ [] }) l.fn.values.items
