-- The tables of the sites as they are stored.
use Rattle.merge_keeper.specs.declared.stored.PublisherStored.{PublisherStored}
use Rattle.merge_keeper.specs.declared.stored.SubscriberStored.{SubscriberStored}
use Rattle.merge_model.specs.Tables.{PublisherTables, SubscriberTables}

abbrev pub publisher_stored : PublisherTables → PublisherStored
publisher_stored p = record {
  changes = p.changes;
  filling = p.gens.filling;
  closings = p.gens.closings;
  conflict_count = p.conflict_count;
  latest = p.latest;
  rows = p.rows;
  mappings = p.mappings;
  conflicts = p.conflicts;
  grants = p.grants;
  held = p.held;
  sites = p.sites;
}

abbrev pub subscriber_stored : SubscriberTables → SubscriberStored
subscriber_stored s = record {
  site = s.site;
  changes = s.changes;
  filling = s.gens.filling;
  closings = s.gens.closings;
  conflict_count = s.conflict_count;
  latest = s.latest;
  seq = s.seq;
  outstanding = s.outstanding;
  received = s.received;
  watermark = s.watermark;
  is_joined = s.is_joined;
  rows = s.rows;
  conflicts = s.conflicts;
  held = s.held;
}
