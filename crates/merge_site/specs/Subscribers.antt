-- A subscriber with a keeper of its records.
use Rattle.std.specs.Prelude.{List, Option, map, ◌≡◌}
use Rattle.merge_units.specs.declared.site_row.SubscriberRow.{SubscriberRow}
use Rattle.merge_gens.specs.declared.closings.Closing.{Closing}
use Rattle.merge_model.specs.Tables.{SubscriberTables}
use Rattle.merge_ports.specs.Entries.{Map}
use Rattle.merge_keeper.specs.Stored.{IsSubscriberKeyed, subscriber_records}
use Rattle.merge_keeper.specs.declared.stored.SubscriberChanges.{SubscriberChanges}
use Rattle.merge_keeper.specs.declared.stored.SubscriberStored.{SubscriberStored}
use Rattle.merge_sub.specs.declared.changes.Changes.{Changes}
use Rattle.merge_sub.specs.declared.state.State.{State}
use Rattle.merge_world.specs.Printable.{AreLostPrintable, ArePrintable}
use Rattle.merge_site.specs.Kept.{IsKept}
use Rattle.merge_site.specs.Lists.{closing_changes, conflict_put, held_changes, up_to}

-- the tables, as they are stored
abbrev pub subscriber_stored : SubscriberTables → SubscriberStored
subscriber_stored s = record {
  site = s.site;
  changes = s.changes;
  filling = s.gens.filling;
  closings = s.gens.closings;
  conflict_count = s.conflict_count;
  latest = s.latest;
  seq = s.seq;
  outstanding = s.outstanding;
  received = s.received;
  watermark = s.watermark;
  is_joined = s.is_joined;
  rows = s.rows;
  conflicts = s.conflicts;
  held = s.held;
}

-- tables that are stored, as a subscriber holds them
abbrev pub stored_tables : SubscriberStored → SubscriberTables
stored_tables t = record {
  site = t.site;
  changes = t.changes;
  gens = record { filling = t.filling; closings = t.closings };
  conflict_count = t.conflict_count;
  latest = t.latest;
  seq = t.seq;
  outstanding = t.outstanding;
  received = t.received;
  watermark = t.watermark;
  is_joined = t.is_joined;
  rows = t.rows;
  conflicts = t.conflicts;
  held = t.held;
}

-- the records of the tables
unfoldable pub records_of : SubscriberTables → Map
records_of s = subscriber_records (subscriber_stored s)

-- every number under which a record stands fits its field
unfoldable pub AreKeyed : SubscriberTables → Type 0
AreKeyed s = IsSubscriberKeyed (subscriber_stored s)

-- What holds of a subscriber's tables and what its keeper tells: each value of the tables can be printed, and the keeper has
-- their records.
pub record IsKeptSubscriber (s : SubscriberTables) (told : Option Map) : Type 0 where
  pub keyed : AreKeyed s
  pub kept : IsKept (records_of s) told
  pub printable : ArePrintable (λ (row : SubscriberRow). row.version) s.rows
  pub lost : AreLostPrintable s.conflicts

-- the numbers of a step's changes
abbrev pub state_of : SubscriberChanges → State
state_of c = record {
  changes = c.changes;
  conflict_count = c.conflict_count;
  latest = c.latest;
  seq = c.seq;
  outstanding = c.outstanding;
  received = c.received;
  watermark = c.watermark;
  is_joined = c.is_joined;
}

-- a step's changes as its commit has them, where these closed generations are kept
pub record AreStoredAs (kept : List Closing) (c : Changes) (stored : SubscriberChanges) : Type 0 where
  pub state : state_of stored ≡ c.state
  pub filling : stored.filling ≡ c.gens.filling
  pub rows : stored.rows ≡ c.rows
  pub closings : stored.closings ≡ closing_changes kept c.gens.closings (up_to c.done)
  pub conflicts : stored.conflicts ≡ map conflict_put c.conflicts.rows
  pub held : held_changes stored.held ≡ c.held
