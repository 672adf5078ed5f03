-- The messages that a subscriber makes. Each takes the next number and is the one outstanding message.
use Rattle.std.specs.Prelude.{List, None, Option, Result, Some, [], filter_map, if◌then◌else◌, length, map, option_map, unwrap_or, ℕ, ◌+◌, ◌∷◌}
use Rattle.merge_types.specs.declared.identifiers.Moment.{Moment}
use Rattle.merge_units.specs.declared.version.Version.{Version}
use Rattle.merge_gens.specs.Book.{moment_of}
use Rattle.merge_ident.specs.Holders.{Holder, is_due}
use Rattle.merge_batch.specs.declared.refusal.Refusal.{Refusal}
use Rattle.merge_batch.specs.declared.request.Download.{Download}
use Rattle.merge_batch.specs.declared.request.Join.{Join}
use Rattle.merge_batch.specs.declared.request.Outstanding.{Outstanding}
use Rattle.merge_batch.specs.declared.request.RangeAsk.{RangeAsk}
use Rattle.merge_batch.specs.declared.request.Upload.{Upload}
use Rattle.merge_batch.specs.declared.request.UploadItem.{UploadItem}
use Rattle.merge_batch.specs.declared.request.Want.{Want}
use Rattle.merge_model.specs.Judge.{SubscriberJudge}
use Rattle.merge_model.specs.Publisher.PublisherDownload.{batch_end}
use Rattle.merge_model.specs.Tables.Refusals.{counter_end, first_refusal, unless}
use Rattle.merge_model.specs.Subscriber.{is_joining, subscriber_at_moment, subscriber_closed, subscriber_counters, subscriber_last_closed, subscriber_version_at}
use Rattle.merge_types.specs.declared.row_key.RowKey.{RowKey as Key}
use Rattle.merge_model.specs.Tables.{SubscriberTables}
use Rattle.merge_batch.specs.declared.request.Outstanding.TheVariants as ask

abbrev pub with_message : Outstanding → SubscriberTables → SubscriberTables
with_message sent s = record s { seq = s.seq + 1; outstanding = Some (s.seq + 1, sent) }

-- what refuses each message but a join
abbrev pub sending_refusal : SubscriberTables → Option Refusal
sending_refusal s = first_refusal (is_joining s ∷ counter_end (subscriber_counters s) ∷ [])

-- A join says how far the site is.
abbrev pub join_of : SubscriberTables → Join
join_of s = record { site = s.site; seq = s.seq + 1; generation = subscriber_last_closed s; number = s.changes }

abbrev pub join_made : SubscriberTables → Option (SubscriberTables × Join)
join_made s = if s.is_joined then None else Some (with_message ask.Join s, join_of s)

abbrev pub make_join : SubscriberTables → Result (Option (SubscriberTables × Join)) Refusal
make_join s = unless (counter_end (subscriber_counters s)) (join_made s)

-- An upload has the rows that were changed in the generations behind the received one, as they are now.

-- the rows that the site changed in a generation that was not received
abbrev pub unsent_rows : SubscriberJudge → SubscriberTables → List (Key × ℕ)
unsent_rows judge s = judge.changed_between s.received (subscriber_last_closed s + 1)

abbrev pub upload_item : SubscriberTables → Key × ℕ → Option UploadItem
upload_item s entry = option_map (λ (version : Version). record { article = entry.0.article; row = entry.0.row; generation = entry.1; version = version }) (subscriber_version_at s entry.0)

-- the number of the last change in a generation
abbrev pub through_of : SubscriberTables → ℕ → ℕ
through_of s generation = unwrap_or (moment_of s.gens.closings generation) 0

abbrev pub upload_to : SubscriberJudge → SubscriberTables → ℕ → Upload
upload_to judge s to = record {
  site = s.site;
  seq = s.seq + 1;
  from = s.received;
  to = to;
  through = through_of s to;
  items = filter_map (upload_item s) (judge.changed_between s.received to);
}

abbrev pub upload_end : SubscriberJudge → SubscriberTables → ℕ
upload_end judge s = batch_end (λ (to : ℕ). length (judge.changed_between s.received to)) s.received (subscriber_last_closed s)

abbrev pub upload_sent : SubscriberJudge → SubscriberTables → SubscriberTables × Upload
upload_sent judge s = let to = upload_end judge s in (with_message (ask.Upload s.received to) s, upload_to judge s to)

abbrev pub upload_made : SubscriberJudge → Moment → SubscriberTables → Option (SubscriberTables × Upload)
upload_made judge now s = elim (unsent_rows judge s) [
  | [] ↦ None
  | row ∷ rows ↦ Some (upload_sent judge (subscriber_closed (subscriber_at_moment now s)))
]

abbrev pub make_upload : SubscriberJudge → Moment → SubscriberTables → Result (Option (SubscriberTables × Upload)) Refusal
make_upload judge now s = unless (sending_refusal s) (upload_made judge now s)

-- A range request asks for every article with an identity column.
abbrev pub want_of : ℕ × Holder → Want
want_of entry = record { article = entry.0; have = entry.1.have; due = is_due entry.1 }

abbrev pub ranges_made : SubscriberTables → Option (SubscriberTables × RangeAsk)
ranges_made s = elim s.held [
  | [] ↦ None
  | entry ∷ entries ↦ Some (with_message ask.Ranges s, record { site = s.site; seq = s.seq + 1; wants = map want_of s.held })
]

abbrev pub make_ranges : SubscriberTables → Result (Option (SubscriberTables × RangeAsk)) Refusal
make_ranges s = unless (sending_refusal s) (ranges_made s)

-- A download asks for what lies above the watermark.
abbrev pub make_ask : SubscriberTables → Result (SubscriberTables × Download) Refusal
make_ask s = unless (sending_refusal s) (with_message (ask.Download s.watermark) s, record { site = s.site; seq = s.seq + 1; from = s.watermark })
