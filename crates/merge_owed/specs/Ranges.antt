-- The bound on a session's range requests never ends it: with a greater bound it does the same.
use Rattle.std.specs.Prelude.{◌+◌, ◌≡◌, Some, ℕ}
use Rattle.merge_types.specs.declared.identifiers.SiteId.{SiteId}
use Rattle.merge_schema.specs.declared.publication.Publication.{Publication}
use Rattle.merge_model.specs.History.Model.{Model, model}
use Rattle.merge_model.specs.World.Session.{Session, Stepping, all_ranges, range_asks, range_requests_up_to}
use Rattle.merge_model.specs.Tables.{SubscriberTables}
use Rattle.merge_model.specs.World.{Saying, subscriber_at}
use Rattle.merge_laws.specs.Laws.Bounds.{under_way}

-- with so many more range requests than the session makes at most
abbrev pub more_ranges : Stepping Model → SiteId → ℕ → Session Model → Session Model
more_ranges stepping site more s = range_requests_up_to stepping site (range_asks stepping site s.world + more) s

abbrev pub RangesAreEnough : Publication → Saying → Model → Type 0
RangesAreEnough publication says m = (s : SubscriberTables) (uploads downloads more : ℕ) → subscriber_at m.world s.site ≡ Some s
    → more_ranges (model publication says) s.site more (under_way m uploads downloads) ≡ all_ranges (model publication says) s.site (under_way m uploads downloads)
