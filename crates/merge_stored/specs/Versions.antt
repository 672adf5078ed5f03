-- The versions of stored rows.
use Rattle.std.specs.List.{AllByRecursion}
use Rattle.std.specs.Prelude.{Some, true, ℕ, ◌≡◌}
use Rattle.merge_types.specs.declared.row_key.RowKey.{RowKey as Key}
use Rattle.merge_units.specs.declared.site_row.PublisherRow.{PublisherRow}
use Rattle.merge_units.specs.declared.site_row.SubscriberRow.{SubscriberRow}
use Rattle.merge_units.specs.declared.version.Version.{Version}
use Rattle.merge_schema.specs.declared.publication.Publication.{Publication}
use Rattle.merge_record.specs.Tables.{IsRowKey}
use Rattle.merge_record.specs.Versions.{IsVersion}
use Rattle.merge_keeper.specs.Start.{row_was_made, version_is_sound}
use Rattle.merge_model.specs.Tables.Keys.{at_number}
use Rattle.merge_model.specs.History.Model.{Model}
use Rattle.merge_model.specs.Tables.{SubscriberTables}
use Rattle.merge_model.specs.World.{Saying}
use Rattle.merge_typed.specs.Typed.{PublisherIsTyped, SubscriberIsTyped}

-- A record can have the row, and a start takes its version: it fits the publication, and its tops are known.
pub record VersionLoads (publication : Publication) (key : Key) (version : Version) : Type 0 where
  pub key_fits : IsRowKey key
  pub has_record : IsVersion version
  pub sound : version_is_sound publication key.article version ≡ true

-- and neither its lineage nor its maker is a change that the site has yet to make
pub record VersionIsStored (publication : Publication) (site changes : ℕ) (key : Key) (version : Version) : Type 0 where
  pub loads : VersionLoads publication key version
  pub made : row_was_made site changes key version ≡ true

-- of each row at the publisher, and at each subscriber
pub record VersionsAreStored (publication : Publication) (m : Model) : Type 0 where
  pub publisher : PublisherIsTyped m.world.publisher → AllByRecursion (λ (row : Key × PublisherRow). VersionIsStored publication 0 m.world.publisher.changes row.0 row.1.version) m.world.publisher.rows
  pub subscribers : (n : ℕ) (s : SubscriberTables) → at_number m.world.subscribers n ≡ Some s → SubscriberIsTyped s
      → AllByRecursion (λ (row : Key × SubscriberRow). VersionIsStored publication s.site.0 s.changes row.0 row.1.version) s.rows

abbrev pub VersionsLoad : Publication → Saying → Model → Type 0
VersionsLoad publication says m = VersionsAreStored publication m
