use Rattle.std.proofs.Common.{ℕ, List, map, ap, ◌∙◌, arith}
use Rattle.merge_types.specs.Length.{row_length}
use Rattle.merge_units.specs.Changes.{cell_after}
use Rattle.merge_units.specs.Length.{stored_length}
use Rattle.merge_units.specs.declared.version.Cell.{Cell}
use Rattle.merge_change.proofs.Steps.{capped, map_more, places_all, total_more}
use Rattle.merge_change.proofs.length.cells_length.Goals as goal

-- the next cell counts besides
pub loop-column-preserved : goal.loop-column-preserved
loop-column-preserved c dot =
    let after = cell_after dot c.args.settings.now in
    let cell = c.index-cells-column.result in
    c.saturating_add-total.ensures
    ∙ total_more (λ (one : Cell). row_length one.values) c.loop-column.total _ _ (after (c.loop-column.column, cell)) c.cell_length.result (c.loop-column.invariant dot) (c.cell_length.ensures dot)
    (map_more after c.args.cells.now c.loop-column.column cell c.loop-column-test.true c.index-cells-column.is)

-- and behind the last one there is none
pub returns : goal.returns
returns c dot =
    c.loop-column.invariant dot
    ∙ ap (λ (places : List (ℕ × Cell)). capped (stored_length (map (cell_after dot c.args.settings.now) places))) (places_all c.args.cells.now c.loop-column.column (omega arith))
