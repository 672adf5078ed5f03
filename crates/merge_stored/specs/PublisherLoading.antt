-- Rows and mappings of the publisher keep the rules of a start.
use Rattle.std.specs.Prelude.{List, Ok, [], true, ◌≡◌}
use Rattle.merge_types.specs.declared.row_key.RowKey.{RowKey as Key}
use Rattle.merge_units.specs.declared.site_row.PublisherRow.{PublisherRow}
use Rattle.merge_gens.specs.declared.moves.Mapping.{Mapping}
use Rattle.merge_gens.specs.declared.moves.RowSite.{RowSite}
use Rattle.merge_schema.specs.declared.publication.Publication.{Publication}
use Rattle.merge_record.specs.Rows.{IsPublisherRow}
use Rattle.merge_record.specs.Tables.{IsMapping, IsRowKey, IsRowSite}
use Rattle.merge_keeper.specs.PublisherRules as of_publisher
use Rattle.merge_keeper.specs.PublisherStart as start_publisher
use Rattle.merge_keeper.specs.Start.{KeepOneByOne}
use Rattle.merge_keeper.specs.Stored.{publisher_records}
use Rattle.merge_keeper.specs.declared.publisher_record.PublisherRecord.{PublisherRecord}
use Rattle.merge_keeper.specs.declared.stored.PublisherStored.{PublisherStored}
use Rattle.merge_model.specs.History.Model.{Model}
use Rattle.merge_model.specs.Publisher.{new_holders}
use Rattle.merge_model.specs.Tables.{PublisherTables}
use Rattle.merge_model.specs.World.{Saying}
use Rattle.merge_typed.specs.Typed.{PublisherIsTyped}
use Rattle.merge_stored.specs.Stored.{publisher_stored}

-- a row and a mapping, behind those in front of it
abbrev pub PublisherRowLoads : Publication → PublisherTables → List (Key × PublisherRow) → Key × PublisherRow → Type 0
PublisherRowLoads publication p front row = IsRowKey row.0 × IsPublisherRow row.1 × (start_publisher.row_is_sound publication (of_publisher.with_rows (publisher_stored p) (new_holders publication) front) row.0 row.1 ≡ true)

abbrev pub MappingLoads : Publication → PublisherTables → List (RowSite × Mapping) → RowSite × Mapping → Type 0
MappingLoads publication p front move = IsRowSite move.0 × IsMapping move.1 × (start_publisher.move_is_sound publication (of_publisher.with_mappings (publisher_stored p) (new_holders publication) front) move.0 move.1 ≡ true)

pub record PublisherRowsAreKept (publication : Publication) (m : Model) : Type 0 where
  pub rows : PublisherIsTyped m.world.publisher → KeepOneByOne (PublisherRowLoads publication m.world.publisher) [] m.world.publisher.rows
  pub mappings : KeepOneByOne (MappingLoads publication m.world.publisher) [] m.world.publisher.mappings

abbrev pub PublisherRowsLoad : Publication → Saying → Model → Type 0
PublisherRowsLoad publication says m = PublisherRowsAreKept publication m

-- What is held and granted, whose records stand by article, site and number.
abbrev pub RangeRuleHolds : Publication → PublisherTables → Type 0
RangeRuleHolds publication p = (let t : PublisherStored = publisher_stored p in let records : List PublisherRecord = of_publisher.range_records t.held t.grants in
    KeepOneByOne (λ front r. of_publisher.IsRangeRecord r × (start_publisher.is_sound publication (of_publisher.own_ranges records) (of_publisher.with_ranges publication t (new_holders publication) front) r ≡ true)) [] records)

-- all rules of the publisher
abbrev pub PublisherLoads : Publication → Saying → Model → Type 0
PublisherLoads publication says m = PublisherIsTyped m.world.publisher → of_publisher.KeepRules publication (new_holders publication) (publisher_stored m.world.publisher)

-- and so the store that is written of its tables loads, and gives these tables
abbrev pub PublisherStoreLoads : Publication → Saying → Model → Type 0
PublisherStoreLoads publication says m = PublisherIsTyped m.world.publisher
    → start_publisher.publisher_loaded publication (new_holders publication) (publisher_records (publisher_stored m.world.publisher)) ≡ Ok (publisher_stored m.world.publisher)
