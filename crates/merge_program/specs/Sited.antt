-- One site of a publication, at its store and alone.
use Rattle.std.specs.Prelude.{Bool, List, None, Ok, Option, Some, [], false, true, ℕ, ◌==◌, ◌≡◌}
use Rattle.merge_types.specs.declared.identifiers.Moment.{Moment}
use Rattle.merge_types.specs.declared.identifiers.SiteId.{SiteId}
use Rattle.merge_schema.specs.declared.publication.Publication.{Publication}
use Rattle.merge_batch.specs.declared.refusal.Refusal.TheVariants as refusal
use Rattle.merge_ports.specs.Entries.{Map}
use Rattle.merge_model.specs.Publisher.{new_holders}
use Rattle.merge_model.specs.Tables.{PublisherTables, SubscriberTables}
use Rattle.merge_keeper.specs.PublisherStart.{publisher_loaded}
use Rattle.merge_keeper.specs.Stored as written
use Rattle.merge_keeper.specs.SubscriberStart.{subscriber_loaded}
use Rattle.merge_world.specs.Views.{SitesView, sites_view, tables_at}
use Rattle.merge_site.specs.Kept.{IsKept}
use Rattle.merge_site.specs.Loading.{IsDamage, IsRead}
use Rattle.merge_site.specs.Publishers.{publisher_stored, records_of as publisher_records}
use Rattle.merge_site.specs.Subscribers.{records_of as subscriber_records, subscriber_stored}
use Rattle.merge_command.specs.Alone.{subscriber_view_alone}
use Rattle.merge_program.specs.Runs.{Sides}

abbrev pub begin : Moment
begin = record { 0 = 0 }

-- the publisher with these tables and nothing else, none of whose commits failed
abbrev pub publisher_alone : Publication → PublisherTables → SitesView
publisher_alone publication tables = sites_view (record { publication = publication; tables = tables; faults = 0; told = None }) [] [] begin

-- the publisher's store loads to the tables that are seen
pub record PublisherRead (publication : Publication) (told : Option Map) (v : SitesView) : Type 0 where
  pub tables : PublisherTables
  pub read : IsRead (publisher_loaded publication (new_holders publication)) told (Ok (publisher_stored tables))
  pub seen : v ≡ publisher_alone publication tables

-- a subscriber's store loads to the tables that are seen
pub record SubscriberRead (publication : Publication) (site : SiteId) (told : Option Map) (v : SitesView) : Type 0 where
  pub tables : SubscriberTables
  pub here : tables.site ≡ site
  pub read : IsRead (subscriber_loaded publication site (new_holders publication)) told (Ok (subscriber_stored tables))
  pub seen : v ≡ subscriber_view_alone publication tables 0 begin

abbrev pub IsReadAs : (is_publisher : Bool) → Publication → SiteId → Option Map → SitesView → Type 0
IsReadAs true publication site told v = PublisherRead publication told v
IsReadAs false publication site told v = SubscriberRead publication site told v

-- the store of a site, where it is told, loads to the tables that are seen
abbrev pub IsReadAt : Publication → SiteId → Option Map → SitesView → Type 0
IsReadAt publication site told v = IsReadAs (site.0 == 0) publication site told v

abbrev pub IsDamageAs : (is_publisher : Bool) → Publication → SiteId → Option Map → (table : ℕ) → (key : List ℕ) → Type 0
IsDamageAs true publication site told table key = IsDamage (publisher_loaded publication (new_holders publication)) told (refusal.Damaged table key)
IsDamageAs false publication site told table key = IsDamage (subscriber_loaded publication site (new_holders publication)) told (refusal.Damaged table key)

-- the first record of a site's store that has no reading or breaks a rule
abbrev pub IsDamageAt : Publication → SiteId → Option Map → (table : ℕ) → (key : List ℕ) → Type 0
IsDamageAt publication site told table key = IsDamageAs (site.0 == 0) publication site told table key

abbrev pub LoadsAs : (is_publisher : Bool) → Publication → SiteId → SitesView → Type 0
LoadsAs true publication site v = publisher_loaded publication (new_holders publication) (written.publisher_records (publisher_stored v.publisher)) ≡ Ok (publisher_stored v.publisher)
LoadsAs false publication site v = (s : SubscriberTables) → tables_at v site ≡ Some s → subscriber_loaded publication s.site (new_holders publication) (written.subscriber_records (subscriber_stored s)) ≡ Ok (subscriber_stored s)

-- the records of a site's tables load
abbrev pub LoadsAt : Publication → SiteId → SitesView → Type 0
LoadsAt publication site v = LoadsAs (site.0 == 0) publication site v

-- a store has the records of the subscriber's tables
pub record SubscriberKept (site : SiteId) (v : SitesView) (told : Option Map) : Type 0 where
  pub tables : SubscriberTables
  pub here : tables_at v site ≡ Some tables
  pub kept : IsKept (subscriber_records tables) told

abbrev pub IsKeptAs : (is_publisher : Bool) → SiteId → SitesView → Option Map → Type 0
IsKeptAs true site v told = IsKept (publisher_records v.publisher) told
IsKeptAs false site v told = SubscriberKept site v told

-- a store, where it is told, has the records of the site's tables
abbrev pub IsKeptAt : SiteId → SitesView → Option Map → Type 0
IsKeptAt site v told = IsKeptAs (site.0 == 0) site v told

-- what holds of the tables to which a site's store loads
abbrev pub AtSite : Publication → SiteId → Option Map → (SitesView → Type 0) → Type 0
AtSite publication site told P = (old : SitesView) × IsReadAt publication site told old × P old

-- nothing was written, and a store is told as before
pub record IsUntouched (stored map : Option Map) (sides : Sides) : Type 0 where
  pub silent : sides.written ≡ sides.was
  pub same : map ≡ stored
