-- The tables of a site keep the rules of a start.
use Rattle.std.specs.Option.{option_map}
use Rattle.std.specs.Prelude.{List, Ok, Some, [], true, ℕ, ◌<◌, ◌^◌, ◌≡◌}
use Rattle.merge_types.specs.declared.row_key.RowKey.{RowKey as Key}
use Rattle.merge_units.specs.declared.site_row.SubscriberRow.{SubscriberRow}
use Rattle.merge_ident.specs.Holders.{Holder}
use Rattle.merge_schema.specs.declared.publication.Publication.{Publication}
use Rattle.merge_record.specs.Rows.{IsSubscriberRow}
use Rattle.merge_record.specs.Tables.{IsHeld, IsRowKey}
use Rattle.merge_keeper.specs.Entries.{held_ranges}
use Rattle.merge_keeper.specs.Start.{KeepOneByOne, holder_of, identity_at}
use Rattle.merge_keeper.specs.Stored.{subscriber_records}
use Rattle.merge_keeper.specs.SubscriberRules as of_subscriber
use Rattle.merge_keeper.specs.SubscriberStart as start_subscriber
use Rattle.merge_model.specs.Tables.Keys.{at_number}
use Rattle.merge_model.specs.History.Model.{Model}
use Rattle.merge_model.specs.Publisher.{new_holders}
use Rattle.merge_model.specs.Tables.{SubscriberTables}
use Rattle.merge_model.specs.World.{Saying}
use Rattle.merge_typed.specs.Typed.{SubscriberIsTyped}
use Rattle.merge_stored.specs.Stored.{subscriber_stored}

-- a row of a subscriber, behind those in front of it
abbrev pub SubscriberRowLoads : Publication → SubscriberTables → List (Key × SubscriberRow) → Key × SubscriberRow → Type 0
SubscriberRowLoads publication s front row = IsRowKey row.0 × IsSubscriberRow row.1 × (start_subscriber.row_is_sound publication (of_subscriber.with_rows (subscriber_stored s) (new_holders publication) front) row.0 row.1 ≡ true)

abbrev pub SubscriberRowsLoad : Publication → Saying → Model → Type 0
SubscriberRowsLoad publication says m = (n : ℕ) (s : SubscriberTables) → at_number m.world.subscribers n ≡ Some s → SubscriberIsTyped s → KeepOneByOne (SubscriberRowLoads publication s) [] s.rows

-- what is stored of an article's ranges
abbrev pub HeldEntryLoads : Publication → ℕ × Holder → Type 0
HeldEntryLoads publication p = (p.0 < 2 ^ 8) × IsHeld (held_ranges p.1) × (start_subscriber.held_is_sound publication p.0 (held_ranges p.1) ≡ true) × (option_map (λ identity. holder_of identity (held_ranges p.1)) (identity_at publication p.0) ≡ Some p.1)

-- all rules of a subscriber
abbrev pub SubscribersLoad : Publication → Saying → Model → Type 0
SubscribersLoad publication says m = (n : ℕ) (s : SubscriberTables) → at_number m.world.subscribers n ≡ Some s → SubscriberIsTyped s
    → of_subscriber.KeepRules publication (new_holders publication) (subscriber_stored s)

-- and so the store that is written of its tables loads, and gives these tables
abbrev pub SubscriberStoresLoad : Publication → Saying → Model → Type 0
SubscriberStoresLoad publication says m = (n : ℕ) (s : SubscriberTables) → at_number m.world.subscribers n ≡ Some s → SubscriberIsTyped s
    → start_subscriber.subscriber_loaded publication s.site (new_holders publication) (subscriber_records (subscriber_stored s)) ≡ Ok (subscriber_stored s)
