-- What a reply changes: what the rows let go, what they are ordered to be, and the ranges that come in.
use Rattle.std.specs.List.{AllByRecursion, fold, list_any}
use Rattle.std.specs.Prelude.{◌≡◌, ℕ, Bool, List, [], None, Option, Some, filter, if◌then◌else◌, map, nat_le, nat_lt, option_map, true}
use Rattle.merge_types.specs.declared.identifiers.Moment.{Moment}
use Rattle.merge_types.specs.declared.row_key.RowKey.{RowKey}
use Rattle.merge_table.specs.declared.edit.Edit.{Edit}
use Rattle.merge_table.specs.declared.edit.Edit.TheVariants.{Put, Take}
use Rattle.merge_units.specs.declared.site_row.SubscriberRow.{SubscriberRow}
use Rattle.merge_units.specs.declared.version.Body.TheVariants.{Live}
use Rattle.merge_gens.specs.declared.index.IndexEntry.{IndexEntry}
use Rattle.merge_ident.specs.Holders.{Holder, after_receive}
use Rattle.merge_schema.specs.declared.publication.Publication.{Publication}
use Rattle.merge_batch.specs.Replies.{act_fits}
use Rattle.merge_batch.specs.declared.reply.Act.{Act}
use Rattle.merge_batch.specs.declared.reply.Act.TheVariants as order
use Rattle.merge_batch.specs.declared.reply.DownloadItem.{DownloadItem}
use Rattle.merge_batch.specs.declared.reply.RangeGrant.{RangeGrant}
use Rattle.merge_model.specs.Judge.ByNumbers.{by_rows}
use Rattle.merge_model.specs.World.Faults.{standing_of}
use Rattle.merge_model.specs.Tables.Keys.{at_number, row_at}
use Rattle.merge_model.specs.Tables.{SubscriberTables}
use Rattle.merge_model.specs.Subscriber.Taking.{key_of_download, row_above, with_item, with_received}
use Rattle.merge_sub.specs.Held.{kept_by}
use Rattle.merge_sub.specs.Local.{take_entry}
use Rattle.merge_sub.specs.declared.state.State.{State}

-- the tables with what they keep one of
abbrev pub at_state : State → SubscriberTables → SubscriberTables
at_state state s = record s {
  changes = state.changes;
  conflict_count = state.conflict_count;
  latest = state.latest;
  seq = state.seq;
  outstanding = state.outstanding;
  received = state.received;
  watermark = state.watermark;
  is_joined = state.is_joined;
}

-- the tables once the outstanding message is answered
abbrev pub answered : Moment → SubscriberTables → SubscriberTables
answered latest s = record s { latest = latest; outstanding = None }

-- how many ranges of an article these are
abbrev pub heard_in : List (ℕ × Holder) → ℕ → Option ℕ
heard_in held article = option_map (λ (holder : Holder). holder.have) (at_number held article)

-- the row without the generations up to one
abbrev pub kept_above : ℕ → SubscriberRow → SubscriberRow
kept_above received row = record row { generations = filter (λ (generation : ℕ). nat_lt received generation) row.generations }

-- the row at a key lets its generations up to one go
abbrev pub let_go : List (RowKey × SubscriberRow) → ℕ → RowKey → Option (Edit RowKey SubscriberRow)
let_go rows received key = option_map (λ (row : SubscriberRow). Put key (kept_above received row)) (row_at rows key)

-- and is found by them no more
abbrev pub entries_let_go : List (RowKey × SubscriberRow) → ℕ → RowKey → List (Edit IndexEntry (Unit {0}))
entries_let_go rows received key = map (take_entry key) (filter (λ (generation : ℕ). nat_le generation received) (kept_by (row_at rows key)))

-- what becomes of a row by an order
abbrev pub ordered : RowKey → Act → Edit RowKey SubscriberRow
ordered key (order.Put lineage live) = Put key (record { version = record { lineage = lineage; body = Live live }; generations = [] })
ordered key order.RemoveDeleted = Take key
ordered key order.RemoveLeft = Take key

-- whether the row at a key has a change that the publisher has not taken
abbrev pub is_unsent_at : List (RowKey × SubscriberRow) → ℕ → RowKey → Bool
is_unsent_at rows received key = list_any (λ (generation : ℕ). nat_lt received generation) (kept_by (row_at rows key))

-- what an item makes of its row, where this has no such change
abbrev pub order_of : List (RowKey × SubscriberRow) → ℕ → DownloadItem → Option (Edit RowKey SubscriberRow)
order_of rows received item = if is_unsent_at rows received (key_of_download item) then None else Some (ordered (key_of_download item) item.act)

-- what a site is ordered fits it
abbrev pub AreOrders : Publication → SubscriberTables → List DownloadItem → Type 0
AreOrders publication s items = AllByRecursion (λ (item : DownloadItem). act_fits publication (standing_of s) item.article item.act ≡ true) items

-- the tables once the publisher has taken so much, and the rows are as it orders
abbrev pub with_orders : List DownloadItem → State → SubscriberTables → SubscriberTables
with_orders items state s = record (with_received state.received (at_state state s)) {
  rows = fold (with_item (by_rows s) state.received) (map (row_above state.received) s.rows) items;
}

-- the ranges of an article with those that are granted
abbrev pub granted : List (ℕ × Holder) → RangeGrant → Option (Edit ℕ Holder)
granted held grant = option_map (λ (holder : Holder). Put grant.article (after_receive holder (record { begin = grant.begin; end = grant.end }))) (at_number held grant.article)
