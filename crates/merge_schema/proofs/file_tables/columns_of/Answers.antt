use Rattle.std.proofs.Common.{◌≡◌, ℕ, ◌+◌, true, None, List, All, length, map, drop, sym, subst, ◌∙◌, ap}
use Rattle.toml.specs.View.{view, table_view}
use Rattle.merge_types.specs.declared.values.Column.{Column}
use Rattle.merge_script.specs.Names.{is_name_text}
use Rattle.merge_schema.specs.FileTables.{columns_from}
use Rattle.merge_schema.specs.Valid.{HasValidIdentity}
use Rattle.merge_schema.proofs.Each.{with_columns, columns_go_on}
use Rattle.merge_schema.proofs.Identities.{kept_valid}
use Rattle.std.proofs.lemmas.List.Elements.{All-push}
use Rattle.merge_schema.proofs.Placed.{one_longer}
use Rattle.merge_schema.proofs.file_tables.columns_of.Goals as goal

pub loop-value-preserved : goal.loop-value-preserved
loop-value-preserved c =
    let values = c.args.values.now in
    let i = c.loop-value.value-index in
    let total = columns_from 0 None (map view values) in
    let pushed = sym c.in_ok-push.ensures.ok in
    let column = c.in_ok-column.column in
    let now = c.in_ok-column.now in
    let place = c.loop-value.place in
    let before = c.loop-value.invariant in
    record {
      counted = ap (λ (n : ℕ). n + 1) before.counted;
      long = subst (λ (columns : List Column). length columns ≡ i + 1) pushed (one_longer c.loop-value.columns column i before.long);
      named = subst (λ (columns : List Column). All (λ (x : Column). is_name_text x.name ≡ true) columns) pushed
          (All-push (λ (x : Column). is_name_text x.name ≡ true) c.loop-value.columns column before.named c.in_ok-column.ensures.named);
      valid = subst (λ (columns : List Column). HasValidIdentity columns now) pushed
          (kept_valid c.loop-value.columns column place c.loop-value.identity now before.valid (before.long ∙ sym before.counted) c.in_ok-column.ensures.identity);
      so_far = subst (λ (columns : List Column). with_columns columns (columns_from (place + 1) now (map view (drop (i + 1) values))) ≡ total) pushed
          (columns_go_on view c.loop-value.columns place c.loop-value.identity values i c.value-item.result (table_view c.in_ok-table.table.now) column now total c.loop-value-test.true c.value-item.is c.in_ok-table.ensures c.in_ok-column.ensures.column before.so_far);
    }
