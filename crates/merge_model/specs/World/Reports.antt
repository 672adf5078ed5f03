-- What reports answer. They change nothing.
use Rattle.std.specs.List.{range_with_len}
use Rattle.std.specs.Prelude.{Bool, List, count_by, filter, filter_map, length, map, option_map, unwrap_or, ℕ, ◌==◌}
use Rattle.merge_types.specs.declared.identifiers.SiteId.{SiteId}
use Rattle.merge_gens.specs.declared.sites.Marks.{Marks}
use Rattle.merge_ident.specs.Holders.{Holder}
use Rattle.merge_schema.specs.Partition.{LiveRow, partition_at}
use Rattle.merge_schema.specs.declared.publication.Publication.{Publication}
use Rattle.merge_schema.specs.declared.publication.Subscription.{Subscription}
use Rattle.merge_batch.specs.declared.request.Outstanding.{Outstanding}
use Rattle.merge_model.specs.declared.answer.Answer.{Answer}
use Rattle.merge_model.specs.declared.answer.Answer.TheVariants.{OfPublisher, OfSubscriber, Partition}
use Rattle.merge_model.specs.declared.answer.HeldRanges.{HeldRanges}
use Rattle.merge_model.specs.declared.answer.ShownRow.{ShownRow}
use Rattle.merge_model.specs.declared.answer.SiteStanding.{SiteStanding}
use Rattle.merge_model.specs.Judge.ByNumbers.{by_rows}
use Rattle.merge_model.specs.Publisher.Entries.{key_of_live, live_row, live_rows}
use Rattle.merge_model.specs.Tables.Keys.{at_number}
use Rattle.merge_model.specs.Subscriber.Sending.{unsent_rows}
use Rattle.merge_model.specs.Subscriber.{subscriber_last_closed}
use Rattle.merge_types.specs.declared.row_key.RowKey.{RowKey as Key}
use Rattle.merge_units.specs.declared.site_row.SubscriberRow.{SubscriberRow}
use Rattle.merge_model.specs.Tables.{PublisherTables, SubscriberTables}

-- the live rows of an article at a site, with their values
abbrev pub is_of_article : ℕ → LiveRow → Bool
is_of_article article row = row.article == article

abbrev pub shown_rows : ℕ → List LiveRow → List ShownRow
shown_rows article rows = map (λ (row : LiveRow). record { row = row.row; values = row.values }) (filter (is_of_article article) rows)

abbrev pub subscriber_live_rows : SubscriberTables → List LiveRow
subscriber_live_rows s = filter_map (λ (row : Key × SubscriberRow). live_row row.0 row.1.version.body) s.rows

-- how many live rows each article has
abbrev pub counts_of : Publication → List LiveRow → List ℕ
counts_of publication rows = map (λ (article : ℕ). count_by (is_of_article article) rows) (range_with_len 0 (length publication.articles))

-- the rows of a site's partition, as the publisher holds it
abbrev pub partition_rows : Publication → SiteId → PublisherTables → List Key
partition_rows publication site p = map key_of_live (partition_at publication site (live_rows p.rows))

abbrev pub partition_report : Publication → SiteId → PublisherTables → Answer
partition_report publication site p = Partition (partition_rows publication site p)

abbrev pub sites_report : Publication → PublisherTables → List SiteStanding
sites_report publication p = map (λ (s : Subscription). record { site = s.site; state = at_number p.sites s.site.0 }) publication.subscriptions

abbrev pub publisher_generations : Publication → PublisherTables → Answer
publisher_generations publication p = OfPublisher p.gens.filling (length p.gens.closings) (sites_report publication p)

abbrev pub outstanding_of : SubscriberTables → ℕ
outstanding_of s = unwrap_or (option_map (λ (sent : ℕ × Outstanding). sent.0) s.outstanding) 0

abbrev pub marks_of : SubscriberTables → Marks
marks_of s = record {
  closed = subscriber_last_closed s;
  filled = s.gens.filling.filled;
  received = s.received;
  watermark = s.watermark;
  seq = s.seq;
  outstanding = outstanding_of s;
}

-- the ranges that a subscriber holds
abbrev pub held_report : SubscriberTables → List HeldRanges
held_report s = map (λ (entry : ℕ × Holder). record { article = entry.0; ranges = entry.1 }) s.held

abbrev pub unsent_count : SubscriberTables → ℕ
unsent_count s = length (unsent_rows (by_rows s) s)

abbrev pub subscriber_generations : SubscriberTables → Answer
subscriber_generations s = OfSubscriber (marks_of s) (unsent_count s)
