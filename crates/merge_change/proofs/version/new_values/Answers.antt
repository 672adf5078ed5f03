use Rattle.std.proofs.Common.{ℕ, List, Option, map, ap, sym, ◌∙◌, arith}
use Rattle.std.specs.List.{enumerate_from}
use Rattle.merge_types.specs.declared.values.ColumnType.{ColumnType}
use Rattle.merge_batch.specs.LocalChanges.{new_value, types_at}
use Rattle.merge_change.proofs.Steps.{places_more, places_all}
use Rattle.merge_change.proofs.version.new_values.Goals as goal

-- the value of the next column stands behind
pub loop-column-preserved : goal.loop-column-preserved
loop-column-preserved c =
    let below = places_more (new_value c.identity_column-identity_column.result c.args.identity.now c.args.settings.now) (types_at c.args.publication.now c.args.place) c.loop-column.column (omega arith) in
    rw (c.in_ok-push.ensures.ok, c.loop-column.invariant, c.in_ok-new_value.ensures) (sym below)

-- and behind the last column there is none
pub returns : goal.returns
returns c =
    let types = types_at c.args.publication.now c.args.place in
    let all = places_all types c.loop-column.column (omega arith) in
    c.loop-column.invariant
    ∙ ap (λ (places : List (ℕ × ColumnType)). map (λ (place : ℕ × ColumnType). new_value c.identity_column-identity_column.result c.args.identity.now c.args.settings.now place.0) places) all
    ∙ ap (λ (column : Option ℕ). map (λ (place : ℕ × ColumnType). new_value column c.args.identity.now c.args.settings.now place.0) (enumerate_from 0 types)) c.identity_column-identity_column.ensures
