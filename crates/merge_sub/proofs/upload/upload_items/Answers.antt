use Rattle.std.specs.List.{cons_option}
use Rattle.std.specs.Prelude.{◌++◌, [], List, Option}
use Rattle.std.proofs.Common.{ap, get_or, ◌∙◌}
use Rattle.std.proofs.lemmas.List.{drop_more}
use Rattle.merge_types.specs.declared.row_key.RowKey.{RowKey}
use Rattle.merge_batch.specs.declared.request.UploadItem.{UploadItem}
use Rattle.merge_sub.proofs.ChangedRows.{items-added}
use Rattle.merge_sub.proofs.upload.upload_items.Goals as goal
use Rattle.merge_sub.specs.Sent.{item_at}

pub loop-key-preserved : goal.loop-key-preserved
loop-key-preserved c =
    let key : RowKey = get_or c.args.keys.now c.loop-key.key-index (record { article = 0; row = record { 0 = 0 } }) in
    items-added (item_at c.args.rows.now.rows c.args.from c.args.to) c.args.keys.now c.loop-key.key-index key (drop_more c.args.keys.now c.loop-key.key-index (record { article = 0; row = record { 0 = 0 } }) c.loop-key-test.true)
    c.loop-key.items _ (c.in_ok-add_item.ensures ∙ ap (λ (item : Option UploadItem). (let all : List UploadItem = c.loop-key.items ++ cons_option item [] in all)) c.in_ok-item.ensures) _ c.loop-key.invariant
