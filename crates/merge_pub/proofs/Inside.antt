-- The partition of a site as its membership has it.
use Rattle.std.specs.Prelude.{◌≡◌, List, [], Option, Some, None, refl, option_map}
use Rattle.std.proofs.Common.{sym, ap, ◌∙◌}
use Rattle.merge_types.specs.declared.identifiers.SiteId.{SiteId}
use Rattle.merge_types.specs.declared.row_key.RowKey.{RowKey as Key}
use Rattle.merge_units.specs.declared.site_row.PublisherRow.{PublisherRow}
use Rattle.merge_schema.specs.Partition.{LiveRow, is_in_at, is_in_where}
use Rattle.merge_schema.specs.declared.publication.Publication.{Publication}
use Rattle.merge_schema.specs.declared.publication.Subscription.{Subscription}
use Rattle.merge_part.specs.Live.{Live, live_rows as listed}
use Rattle.merge_resolve.specs.Priorities.{subscription_at}
use Rattle.merge_model.specs.Publisher.Entries.{live_rows, partition_keys}
use Rattle.merge_model.specs.Tables.Keys.{has_key}
use Rattle.merge_model.specs.Publisher.PublisherDownload.{inside_keys}
use Rattle.merge_model.specs.Tables.{PublisherTables}
use Rattle.merge_steps.specs.LiveRows.{live_pairs}
use Rattle.merge_steps.proofs.Follows.{pairs-listed}
use Rattle.merge_steps.proofs.Told.{in-partition}

inside-found : (publication : Publication) (rows : List (Key × PublisherRow)) (key : Key) (found : Option Subscription)
    → is_in_where (option_map (λ (s : Subscription). s.host) found) publication (live_rows rows) key.article key.row
    ≡ has_key (let keys : List Key = elim found [ None ↦ [] | Some subscription ↦ partition_keys publication subscription rows ] in keys) key
inside-found publication rows key None = refl
inside-found publication rows key (Some subscription) = sym (in-partition publication subscription.host (live_rows rows) key)

-- a row is in a site's partition where its membership says so
pub inside-is : (publication : Publication) (site : SiteId) (p : PublisherTables) (live : Live) (key : Key) → live ≡ live_pairs p.rows
    → is_in_at publication site (listed live) key.article key.row ≡ has_key (inside_keys publication site p) key
inside-is publication site p live key is =
    ap (λ (rows : List LiveRow). is_in_at publication site rows key.article key.row) (ap listed is ∙ pairs-listed p.rows)
    ∙ inside-found publication p.rows key (subscription_at publication site.0)
