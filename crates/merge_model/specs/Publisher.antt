-- The publisher's tables: how they begin, their moment and generations, and what every request is refused for.
-- The room holds its steps: local changes, joins, uploads with their acts, ranges, downloads, purges, and the entries that they make.
pub mod PublisherLocal
pub mod PublisherJoin
pub mod PublisherUpload
pub mod PublisherRanges
pub mod PublisherDownload
pub mod PublisherPurge
pub mod Acts
pub mod Entries
use Rattle.std.specs.Prelude.{List, None, Option, Result, Some, [], map, max, nat_le, not, unwrap_or, ℕ, ◌∷◌}
use Rattle.merge_types.specs.declared.identifiers.Moment.{Moment}
use Rattle.merge_types.specs.declared.identifiers.SiteId.{SiteId}
use Rattle.merge_gens.specs.Book.{Book, closed_now}
use Rattle.merge_gens.specs.Retention.{is_expired}
use Rattle.merge_gens.specs.declared.sites.SiteState.{SiteState}
use Rattle.merge_ident.specs.Holders.{Holder, new_holder}
use Rattle.merge_schema.specs.declared.publication.Identity.{Identity}
use Rattle.merge_schema.specs.declared.publication.Publication.{Publication}
use Rattle.merge_schema.specs.Places.{is_subscription}
use Rattle.merge_batch.specs.declared.refusal.Refusal.{Refusal}
use Rattle.merge_batch.specs.declared.refusal.Refusal.TheVariants.{Expired, NotJoined, Stale, UnknownSite}
use Rattle.merge_model.specs.Tables.Keys.{at_number, put_number}
use Rattle.merge_model.specs.Tables.Publications.{identities}
use Rattle.merge_model.specs.Tables.Refusals.{counter_end, first_refusal, refused_if, unless}
use Rattle.merge_model.specs.Tables.{PublisherTables}

-- The empty tables: each identity article holds no range.
abbrev pub holder_for : ℕ × Identity → ℕ × Holder
holder_for place = (place.0, new_holder place.1.threshold)

abbrev pub new_holders : Publication → List (ℕ × Holder)
new_holders publication = map holder_for (identities publication)

abbrev pub no_generations : Book
no_generations = record { filling = record { last_closed = 0; filled = 0 }; closings = [] }

abbrev pub empty_publisher : Publication → PublisherTables
empty_publisher publication = record {
  changes = 0;
  gens = no_generations;
  conflict_count = 0;
  latest = record { 0 = 0 };
  rows = [];
  mappings = [];
  conflicts = [];
  grants = [];
  held = new_holders publication;
  sites = [];
}

-- The moment only rises. Each step that is not refused takes it over.
abbrev pub later : Moment → Moment → Moment
later a b = record { 0 = max a.0 b.0 }

abbrev pub at_moment : Moment → PublisherTables → PublisherTables
at_moment now p = record p { latest = later now p.latest }

abbrev pub tables_after_close : PublisherTables → PublisherTables
tables_after_close p = record p { gens = closed_now p.gens p.latest }

abbrev pub last_closed : PublisherTables → ℕ
last_closed p = p.gens.filling.last_closed

abbrev pub counters : PublisherTables → List ℕ
counters p = p.changes ∷ last_closed p ∷ p.conflict_count ∷ []

-- Closing.
abbrev pub close_generation : Moment → PublisherTables → Result (PublisherTables × ℕ) Refusal
close_generation now p = let after = tables_after_close (at_moment now p) in unless (counter_end (counters p)) (after, last_closed after)

-- What every request of a site is refused for.

abbrev pub state_refusal : Publication → ℕ → Moment → Option SiteState → Option Refusal
state_refusal publication seq now None = Some NotJoined
state_refusal publication seq now (Some state) = first_refusal (
    refused_if (is_expired (record { 0 = state.last_sync }) now publication.retention_days) (Expired (record { 0 = state.last_sync }) now)
    ∷ refused_if (nat_le seq state.joined_at) (Stale seq state.joined_at)
    ∷ [])

abbrev pub unknown_site : Publication → SiteId → Option Refusal
unknown_site publication site = refused_if (not (is_subscription publication site.0)) (UnknownSite site)

-- the site subscribes, has joined, is not expired, and made the message after it joined
abbrev pub site_refusal : Publication → SiteId → ℕ → Moment → PublisherTables → Option Refusal
site_refusal publication site seq now p = first_refusal (
    unknown_site publication site
    ∷ state_refusal publication seq (later now p.latest) (at_number p.sites site.0)
    ∷ [])

abbrev pub no_state : SiteState
no_state = record { joined_at = 0; received = 0; received_number = 0; seen = 0; watermark = 0; last_sync = 0 }

abbrev pub state_of : PublisherTables → SiteId → SiteState
state_of p site = unwrap_or (at_number p.sites site.0) no_state

abbrev pub with_state : SiteId → SiteState → PublisherTables → PublisherTables
with_state site state p = record p { sites = put_number p.sites site.0 state }
