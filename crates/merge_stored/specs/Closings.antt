-- The closed generations that the sites keep.
use Rattle.std.specs.List.{AllByRecursion}
use Rattle.std.specs.Prelude.{List, Some, [], true, ℕ, ◌+◌, ◌<◌, ◌^◌, ◌≡◌}
use Rattle.merge_gens.specs.declared.closings.Closing.{Closing}
use Rattle.merge_schema.specs.declared.publication.Publication.{Publication}
use Rattle.merge_keeper.specs.PublisherStart as start_publisher
use Rattle.merge_keeper.specs.Start.{KeepOneByOne}
use Rattle.merge_keeper.specs.SubscriberRules.{Run, with_closings}
use Rattle.merge_keeper.specs.SubscriberStart as start_subscriber
use Rattle.merge_model.specs.Tables.Keys.{at_number}
use Rattle.merge_model.specs.History.Model.{Model}
use Rattle.merge_model.specs.Publisher.{new_holders}
use Rattle.merge_model.specs.Subscriber.{subscriber_last_closed}
use Rattle.merge_model.specs.Tables.{PublisherTables, SubscriberTables}
use Rattle.merge_model.specs.World.{Saying}
use Rattle.merge_typed.specs.Typed.{MomentFits}
use Rattle.merge_stored.specs.Stored.{subscriber_stored}

abbrev pub PublisherClosingLoads : PublisherTables → Closing → Type 0
PublisherClosingLoads p closing = (closing.generation < 2 ^ 64) × (closing.moment.0 < 2 ^ 64) × (start_publisher.closing_is_sound p.gens.filling.last_closed closing ≡ true)

abbrev pub SubscriberClosingLoads : Publication → SubscriberTables → List Closing → Closing → Type 0
SubscriberClosingLoads publication s front closing = (closing.generation < 2 ^ 64) × (closing.moment.0 < 2 ^ 64) × (start_subscriber.closing_is_sound (with_closings (subscriber_stored s) (new_holders publication) front) closing ≡ true)

-- at a subscriber all above the received one are there
pub record SubscriberClosingsLoad (publication : Publication) (s : SubscriberTables) : Type 0 where
  pub each : KeepOneByOne (SubscriberClosingLoads publication s) [] s.gens.closings
  pub run : Run (subscriber_last_closed s) (s.received + 1) s.gens.closings

pub record AllClosingsLoad (publication : Publication) (m : Model) : Type 0 where
  pub publisher : MomentFits m.world.publisher.latest → AllByRecursion (PublisherClosingLoads m.world.publisher) m.world.publisher.gens.closings
  pub subscribers : (n : ℕ) (s : SubscriberTables) → at_number m.world.subscribers n ≡ Some s → SubscriberClosingsLoad publication s

abbrev pub ClosingsLoad : Publication → Saying → Model → Type 0
ClosingsLoad publication says m = AllClosingsLoad publication m
