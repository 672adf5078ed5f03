use Rattle.std.proofs.Common.{ℕ, List, map, ap, ◌∙◌, arith}
use Rattle.merge_types.specs.Length.{row_length, stored_length}
use Rattle.merge_types.specs.declared.values.Value.{Value}
use Rattle.merge_units.specs.Changes.{value_after}
use Rattle.merge_change.proofs.Steps.{capped, map_more, places_all, total_more_exact}
use Rattle.merge_change.proofs.length.values_length.Goals as goal

-- the next value counts besides
pub loop-column-preserved : goal.loop-column-preserved
loop-column-preserved c =
    let after = value_after c.args.settings.now in
    let value = c.index-values-column.result in
    c.saturating_add-total.ensures
    ∙ total_more_exact stored_length c.loop-column.total _ _ (after (c.loop-column.column, value)) c.value_length.result c.loop-column.invariant c.value_length.ensures
    (map_more after c.args.values.now c.loop-column.column value c.loop-column-test.true c.index-values-column.is)

-- and behind the last one there is none
pub returns : goal.returns
returns c =
    c.loop-column.invariant
    ∙ ap (λ (places : List (ℕ × Value)). capped (row_length (map (value_after c.args.settings.now) places))) (places_all c.args.values.now c.loop-column.column (omega arith))
