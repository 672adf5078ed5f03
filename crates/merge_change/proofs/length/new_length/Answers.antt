use Rattle.std.proofs.Common.{ℕ, List, Option, map, pos, take, ap, sym, ◌∙◌, arith}
use Rattle.std.specs.List.{enumerate_from}
use Rattle.merge_types.specs.Length.{row_length, stored_length}
use Rattle.merge_types.specs.declared.values.ColumnType.{ColumnType}
use Rattle.merge_types.specs.declared.values.Value.TheVariants.{Int}
use Rattle.merge_batch.specs.LocalChanges.{new_value, types_at}
use Rattle.merge_change.proofs.Steps.{capped, places_all, places_more, total_more_exact}
use Rattle.merge_change.proofs.length.new_length.Goals as goal

-- the value of the next column counts besides
pub loop-column-preserved : goal.loop-column-preserved
loop-column-preserved c =
    let value = new_value c.identity_column-identity.result (Int (pos 0)) c.args.settings.now in
    let types = types_at c.args.publication.now c.args.place in
    c.saturating_add-total.ensures
    ∙ total_more_exact stored_length c.loop-column.total _ _ (value c.loop-column.column) c.new_value_length.result c.loop-column.invariant c.new_value_length.ensures (places_more value types c.loop-column.column (omega arith))

-- and behind the last column there is none
pub returns : goal.returns
returns c =
    let types = types_at c.args.publication.now c.args.place in
    let all = places_all types c.loop-column.column (omega arith) in
    c.loop-column.invariant
    ∙ ap (λ (places : List (ℕ × ColumnType)). capped (row_length (map (λ (place : ℕ × ColumnType). new_value c.identity_column-identity.result (Int (pos 0)) c.args.settings.now place.0) places))) all
    ∙ ap (λ (column : Option ℕ). capped (row_length (map (λ (place : ℕ × ColumnType). new_value column (Int (pos 0)) c.args.settings.now place.0) (enumerate_from 0 types)))) c.identity_column-identity.ensures
