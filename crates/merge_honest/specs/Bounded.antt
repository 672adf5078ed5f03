-- How far counters stand: a site whose greatest counter has come to the limit takes no further step, so none is more than one step above
-- it. Beside it stands how many rows the publisher holds, which bounds how many generations a step closes.
use Rattle.std.specs.Prelude.{Some, length, ◌+◌, ◌<◌, ◌≡◌, ◌≤◌, ℕ}
use Rattle.merge_types.specs.Limits.{counter_limit, entry_limit, item_limit, rows_limit}
use Rattle.merge_model.specs.Tables.Keys.{at_number}
use Rattle.merge_model.specs.Publisher.{last_closed}
use Rattle.merge_model.specs.Subscriber.{subscriber_last_closed}
use Rattle.merge_model.specs.Tables.{PublisherTables, SubscriberTables}
use Rattle.merge_model.specs.World.{World}

pub record IsBounded (s : SubscriberTables) : Type 0 where
  pub changes : s.changes ≤ counter_limit
  pub closed : subscriber_last_closed s ≤ counter_limit
  pub seq : s.seq ≤ counter_limit
  -- the open generation is not full
  pub unfilled : s.gens.filling.filled < entry_limit

-- No step closes more generations of the publisher. It touches at most as many rows as are held and the items of an upload, each
-- moves for at most 63 subscribers, and a thousand entries fill a generation.
abbrev pub closing_limit : ℕ
closing_limit = 13_000

-- an upload makes no more changes of the publisher's than it has items
pub record PublisherIsBounded (p : PublisherTables) : Type 0 where
  pub changes : p.changes ≤ counter_limit + item_limit
  pub closed : last_closed p ≤ counter_limit + closing_limit
  pub rows : length p.rows ≤ rows_limit

pub record AreBounded (w : World) : Type 0 where
  pub publisher : PublisherIsBounded w.publisher
  pub subscribers : (n : ℕ) (s : SubscriberTables) → at_number w.subscribers n ≡ Some s → IsBounded s
