-- The state records of the sites.
use Rattle.std.specs.Prelude.{None, Option, Some, true, ℕ, ◌≡◌, ◌≤◌}
use Rattle.merge_schema.specs.declared.publication.Publication.{Publication}
use Rattle.merge_batch.specs.declared.request.Outstanding.{Outstanding}
use Rattle.merge_batch.specs.declared.request.Outstanding.TheVariants as ask
use Rattle.merge_keeper.specs.PublisherRules as of_publisher
use Rattle.merge_keeper.specs.PublisherStart as start_publisher
use Rattle.merge_keeper.specs.States.{IsFront, IsSubscriberState}
use Rattle.merge_keeper.specs.SubscriberRules as of_subscriber
use Rattle.merge_keeper.specs.SubscriberStart as start_subscriber
use Rattle.merge_model.specs.Tables.Keys.{at_number}
use Rattle.merge_model.specs.History.Model.{Model}
use Rattle.merge_model.specs.Subscriber.{subscriber_last_closed}
use Rattle.merge_model.specs.Tables.{PublisherTables, SubscriberTables}
use Rattle.merge_model.specs.World.{Saying}
use Rattle.merge_typed.specs.Typed.{MomentFits}
use Rattle.merge_stored.specs.Stored.{publisher_stored, subscriber_stored}

-- A message that is outstanding has a number from 1 on, and an upload goes from and to what the site has closed.
abbrev pub EndsBy : ℕ → Outstanding → Type 0
EndsBy last (ask.Upload from to) = (from ≤ last) × (to ≤ last)
EndsBy last sent = Unit {0}

abbrev pub SentFits : ℕ → Option (ℕ × Outstanding) → Type 0
SentFits last None = Unit {0}
SentFits last (Some p) = (1 ≤ p.0) × EndsBy last p.1

abbrev pub OutstandingFits : SubscriberTables → Type 0
OutstandingFits s = SentFits (subscriber_last_closed s) s.outstanding

-- the record of a state, and whether a start takes it
abbrev pub PublisherStateLoads : PublisherTables → Type 0
PublisherStateLoads p = IsFront (of_publisher.state_of (publisher_stored p)) × (start_publisher.state_is_sound p.conflict_count (of_publisher.state_of (publisher_stored p)) ≡ true)

abbrev pub SubscriberStateLoads : SubscriberTables → Type 0
SubscriberStateLoads s = IsSubscriberState (of_subscriber.state_of (subscriber_stored s)) × (start_subscriber.state_is_sound s.site s.conflict_count (of_subscriber.state_of (subscriber_stored s)) ≡ true)

pub record AllStatesLoad (m : Model) : Type 0 where
  pub publisher : MomentFits m.world.publisher.latest → PublisherStateLoads m.world.publisher
  pub subscribers : (n : ℕ) (s : SubscriberTables) → at_number m.world.subscribers n ≡ Some s → MomentFits s.latest → SubscriberStateLoads s

abbrev pub StatesLoad : Publication → Saying → Model → Type 0
StatesLoad publication says m = AllStatesLoad m
