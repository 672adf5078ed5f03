-- Reports and their parts.
use Rattle.std.specs.Prelude.{List, None, Ok, Option, Some, [], filter_map, if◌then◌else◌, ℕ, ◌==◌, ◌∷◌, ◌≡◌}
use Rattle.merge_types.specs.declared.identifiers.SiteId.{SiteId}
use Rattle.merge_types.specs.declared.row_key.RowKey.{RowKey}
use Rattle.merge_units.specs.declared.version.Version.{Version}
use Rattle.merge_ident.specs.Holders.{Holder}
use Rattle.merge_schema.specs.Partition.{LiveRow}
use Rattle.merge_schema.specs.declared.publication.Publication.{Publication}
use Rattle.merge_schema.specs.declared.publication.Subscription.{Subscription}
use Rattle.merge_batch.specs.declared.refusal.Refusal.TheVariants.{UnknownSite}
use Rattle.merge_model.specs.Publisher.Entries.{live_row, live_rows}
use Rattle.merge_model.specs.Tables.Keys.{at_number}
use Rattle.merge_model.specs.World.Naming.{article_by}
use Rattle.merge_model.specs.World.Reports.{counts_of, held_report, publisher_generations, shown_rows, subscriber_live_rows, subscriber_generations}
use Rattle.merge_model.specs.Tables.{PublisherTables, SubscriberTables}
use Rattle.merge_model.specs.declared.answer.Answer.{Answer}
use Rattle.merge_model.specs.declared.answer.Answer.TheVariants as answer
use Rattle.merge_model.specs.declared.answer.HeldRanges.{HeldRanges}
use Rattle.merge_model.specs.declared.answer.SiteStanding.{SiteStanding}
use Rattle.merge_model.specs.declared.event.Event.{Event}
use Rattle.merge_model.specs.declared.event.Event.TheVariants as event
use Rattle.merge_world.specs.Views.{SitesView, tables_at}
use Rattle.merge_world.specs.declared.reports.Report.{Report}
use Rattle.merge_world.specs.declared.reports.Report.TheVariants.{Conflicts, Counts, Generations, Ranges, Rows}

-- what a report tells of the publisher's tables, and of a subscriber's
abbrev pub publisher_told : Publication → Report → PublisherTables → Answer
publisher_told publication (Rows article) p = answer.Rows (shown_rows article (live_rows p.rows))
publisher_told publication Conflicts p = answer.Conflicts p.conflicts
publisher_told publication Ranges p = answer.Grants p.grants
publisher_told publication Generations p = publisher_generations publication p
publisher_told publication Counts p = answer.Counts (counts_of publication (live_rows p.rows))

abbrev pub subscriber_told : Publication → Report → SubscriberTables → Answer
subscriber_told publication (Rows article) s = answer.Rows (shown_rows article (subscriber_live_rows s))
subscriber_told publication Conflicts s = answer.Conflicts s.conflicts
subscriber_told publication Ranges s = answer.Held (held_report s)
subscriber_told publication Generations s = subscriber_generations s
subscriber_told publication Counts s = answer.Counts (counts_of publication (subscriber_live_rows s))

-- what is told at a site, of which 0 is the publisher
abbrev pub told_at : SitesView → SiteId → Report → Answer
told_at v site report =
    if site.0 == 0 then publisher_told v.publication report v.publisher
    else elim (tables_at v site) [
      | None ↦ answer.Refused (UnknownSite site)
      | Some s ↦ subscriber_told v.publication report s
    ]

-- the event that asks for a report, where the article that it names has this place
abbrev pub IsReport : Publication → Report → SiteId → Event → Type 0
IsReport publication (Rows article) site e = (name : List ℕ) × (e ≡ event.Show site name) × (article_by publication name ≡ Ok article)
IsReport publication Conflicts site e = e ≡ event.Conflicts site
IsReport publication Ranges site e = e ≡ event.Ranges site
IsReport publication Generations site e = e ≡ event.Generations site
IsReport publication Counts site e = e ≡ event.Count site

-- the live rows among rows that have versions
abbrev pub live_in : {R : Type 0} → (R → Version) → List (RowKey × R) → List LiveRow
live_in {R} version rows = filter_map (λ (row : RowKey × R). live_row row.0 (version row.1).body) rows

-- a row, where it lives
abbrev pub row_if_alive : Option LiveRow → List LiveRow
row_if_alive None = []
row_if_alive (Some row) = row ∷ []

-- the ranges of an article
abbrev pub held_of : ℕ × Holder → HeldRanges
held_of entry = record { article = entry.0; ranges = entry.1 }

-- what the publisher's tables remember of a subscription
abbrev pub standing_of : PublisherTables → Subscription → SiteStanding
standing_of p subscription = record { site = subscription.site; state = at_number p.sites subscription.site.0 }
