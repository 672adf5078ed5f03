-- A subscriber takes a reply. It acts where its number is that of the outstanding message.
use Rattle.std.specs.List.{fold}
use Rattle.std.specs.Prelude.{List, None, Ok, Option, Result, Some, [], filter, if◌then◌else◌, map, nat_lt, true, ℕ, ◌==◌}
use Rattle.merge_types.specs.declared.identifiers.Moment.{Moment}
use Rattle.merge_units.specs.declared.version.Body.TheVariants.{Live}
use Rattle.merge_gens.specs.Book.{book_after_forgetting}
use Rattle.merge_ident.specs.Holders.{Holder, after_receive}
use Rattle.merge_schema.specs.declared.publication.Publication.{Publication}
use Rattle.merge_batch.specs.declared.refusal.Refusal.{Refusal}
use Rattle.merge_batch.specs.declared.reply.Act.{Act as Order}
use Rattle.merge_batch.specs.declared.reply.DownloadItem.{DownloadItem}
use Rattle.merge_batch.specs.declared.reply.Downloaded.{Downloaded}
use Rattle.merge_batch.specs.declared.reply.RangeGrant.{RangeGrant}
use Rattle.merge_batch.specs.declared.reply.Ranged.{Ranged}
use Rattle.merge_batch.specs.declared.reply.Reply.{Reply}
use Rattle.merge_batch.specs.declared.request.Outstanding.{Outstanding}
use Rattle.merge_model.specs.World.Faults.{reply_fault}
use Rattle.merge_model.specs.Judge.{SubscriberJudge}
use Rattle.merge_model.specs.Tables.Keys.{at_number, drop_row, put_number, put_row}
use Rattle.merge_model.specs.Tables.Refusals.{unless}
use Rattle.merge_model.specs.Subscriber.{subscriber_at_moment}
use Rattle.merge_types.specs.declared.row_key.RowKey.{RowKey as Key}
use Rattle.merge_units.specs.declared.site_row.SubscriberRow.{SubscriberRow}
use Rattle.merge_model.specs.Tables.{SubscriberTables}
use Rattle.merge_model.specs.declared.outcome.Taken.{Taken}
use Rattle.merge_model.specs.declared.outcome.Taken.TheVariants.{Acted, Missed}
use Rattle.merge_batch.specs.declared.reply.Act.TheVariants as order
use Rattle.merge_batch.specs.declared.reply.Reply.TheVariants as reply

-- how far the publisher is with this site's generations; what it has is no longer kept
abbrev pub row_above : ℕ → Key × SubscriberRow → Key × SubscriberRow
row_above received row = (row.0, record row.1 { generations = filter (λ (generation : ℕ). nat_lt received generation) row.1.generations })

abbrev pub with_received : ℕ → SubscriberTables → SubscriberTables
with_received received s = record s {
  received = received;
  rows = map (row_above received) s.rows;
  gens = book_after_forgetting s.gens received;
}

-- ranges that were granted
abbrev pub with_grant : List (ℕ × Holder) → RangeGrant → List (ℕ × Holder)
with_grant held grant = elim (at_number held grant.article) [
  | None ↦ held
  | Some holder ↦ put_number held grant.article (after_receive holder (record { begin = grant.begin; end = grant.end }))
]

abbrev pub with_grants : Ranged → SubscriberTables → SubscriberTables
with_grants m s = record s { held = fold with_grant s.held m.grants }

-- a row is put as the publisher has it, or dropped
abbrev pub with_order : Key → Order → List (Key × SubscriberRow) → List (Key × SubscriberRow)
with_order key (order.Put lineage live) rows = put_row rows key (record { version = record { lineage = lineage; body = Live live }; generations = [] })
with_order key order.RemoveDeleted rows = drop_row rows key
with_order key order.RemoveLeft rows = drop_row rows key

abbrev pub key_of_download : DownloadItem → Key
key_of_download item = record { article = item.article; row = item.row }

-- but one with a change that the publisher has not taken stays as it is
abbrev pub with_item : SubscriberJudge → ℕ → List (Key × SubscriberRow) → DownloadItem → List (Key × SubscriberRow)
with_item judge received rows item = if judge.is_unsent received (key_of_download item) then rows else with_order (key_of_download item) item.act rows

abbrev pub with_items : SubscriberJudge → Downloaded → SubscriberTables → SubscriberTables
with_items judge m s = record s {
  rows = fold (with_item judge m.received) s.rows m.items;
  watermark = m.to;
}

-- what each reply does
abbrev pub after_reply : SubscriberJudge → Reply → SubscriberTables → SubscriberTables
after_reply judge (reply.Joined m) s = record s { is_joined = true }
after_reply judge (reply.Uploaded m) s = with_received m.received s
after_reply judge (reply.Ranged m) s = with_grants m s
after_reply judge (reply.Downloaded m) s = with_items judge m (with_received m.received s)
after_reply judge (reply.Refused number values) s = s

abbrev pub seq_of : Reply → ℕ
seq_of (reply.Joined m) = m.seq
seq_of (reply.Uploaded m) = m.seq
seq_of (reply.Ranged m) = m.seq
seq_of (reply.Downloaded m) = m.seq
seq_of (reply.Refused number values) = 0

-- One that doesn't act is told with its number and that of the outstanding message, 0 where none is.

abbrev pub tables_after_reply : SubscriberJudge → Moment → Reply → SubscriberTables → SubscriberTables
tables_after_reply judge now m s = after_reply judge m (record (subscriber_at_moment now s) { outstanding = None })

abbrev pub met_by : Publication → SubscriberJudge → Moment → Reply → SubscriberTables → Option (ℕ × Outstanding) → Result (SubscriberTables × Taken) Refusal
met_by publication judge now m s None = Ok (s, Missed (seq_of m) 0)
met_by publication judge now m s (Some sent) =
    if sent.0 == seq_of m
    then unless (reply_fault publication sent.1 m s) (tables_after_reply judge now m s, Acted)
    else Ok (s, Missed (seq_of m) sent.0)

abbrev pub take_reply : Publication → SubscriberJudge → Moment → Reply → SubscriberTables → Result (SubscriberTables × Taken) Refusal
take_reply publication judge now (reply.Refused number values) s = Ok (s, Acted)
take_reply publication judge now m s = met_by publication judge now m s s.outstanding
