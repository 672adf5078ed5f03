-- A subscriber is made anew: what it discards, and what it drops.
use Rattle.std.specs.Prelude.{◌+◌, ℕ, List, [], ◌∷◌, map}
use Rattle.std.specs.List.{flat_map}
use Rattle.merge_types.specs.declared.row_key.RowKey.{RowKey}
use Rattle.merge_table.specs.declared.edit.Edit.{Edit}
use Rattle.merge_table.specs.declared.edit.Edit.TheVariants.{Take}
use Rattle.merge_units.specs.declared.site_row.SubscriberRow.{SubscriberRow}
use Rattle.merge_gens.specs.declared.index.IndexEntry.{IndexEntry}
use Rattle.merge_batch.specs.declared.request.UploadItem.{UploadItem}
use Rattle.merge_conflict.specs.declared.kind.ConflictKind.TheVariants as kind
use Rattle.merge_conflict.specs.declared.row.ConflictRow.{ConflictRow}
use Rattle.merge_conflict.specs.declared.row.Verdict.TheVariants as verdict
use Rattle.merge_sub.specs.Local.{take_entry}
use Rattle.merge_sub.specs.declared.anew.Discarding.{Discarding}

abbrev pub lost_row : Discarding → ℕ → UploadItem → ConflictRow
lost_row d number item = record {
  number = number;
  article = item.article;
  row = item.row;
  kind = kind.Discarded;
  losing = item.version;
  from = d.site;
  verdict = verdict.Discarded;
  moment = d.latest;
}

-- what would be sent is discarded, numbered from one on
abbrev pub lost_from : Discarding → ℕ → List UploadItem → List ConflictRow
lost_from d number [] = []
lost_from d number (item ∷ items) = lost_row d number item ∷ lost_from d (number + 1) items

-- every row is dropped, with all the generations that it keeps
abbrev pub take_row : RowKey × SubscriberRow → Edit RowKey SubscriberRow
take_row row = Take row.0

abbrev pub dropped_rows : List (RowKey × SubscriberRow) → List (Edit RowKey SubscriberRow)
dropped_rows rows = map take_row rows

abbrev pub row_entries : RowKey × SubscriberRow → List (Edit IndexEntry (Unit {0}))
row_entries row = map (take_entry row.0) row.1.generations

abbrev pub dropped_entries : List (RowKey × SubscriberRow) → List (Edit IndexEntry (Unit {0}))
dropped_entries rows = flat_map row_entries rows
