-- Where what comes from outside is of its types, the tables of every run keep the rules of a start: nothing is asked of tables.
use Rattle.std.specs.Prelude.{List, Ok, Some, ℕ, ◌≡◌}
use Rattle.merge_schema.specs.Valid.{IsValid}
use Rattle.merge_schema.specs.declared.publication.Publication.{Publication}
use Rattle.merge_keeper.specs.PublisherRules as of_publisher
use Rattle.merge_keeper.specs.PublisherStart as start_publisher
use Rattle.merge_keeper.specs.Stored.{publisher_records, subscriber_records}
use Rattle.merge_keeper.specs.SubscriberRules as of_subscriber
use Rattle.merge_keeper.specs.SubscriberStart as start_subscriber
use Rattle.merge_model.specs.Failing.{Slips}
use Rattle.merge_model.specs.Tables.Keys.{at_number}
use Rattle.merge_model.specs.History.Model.{Model}
use Rattle.merge_model.specs.Publisher.{new_holders}
use Rattle.merge_model.specs.Failing.Runs.{model_behind}
use Rattle.merge_model.specs.Tables.{SubscriberTables}
use Rattle.merge_model.specs.World.{Saying}
use Rattle.merge_model.specs.declared.event.Event.{Event}
use Rattle.merge_typed.specs.Outside.{EventsAreTyped}
use Rattle.merge_stored.specs.Stored.{publisher_stored, subscriber_stored}

-- of publications that a file can say, and events as every program hands them in
abbrev pub OfEveryValidTypedRun : (Publication → Model → Type 0) → Type 0
OfEveryValidTypedRun Holds = (resolvers : ℕ) (publication : Publication) → IsValid resolvers publication → (says : Saying) (tallies : List ℕ) (slips : Slips) (events : List Event) → EventsAreTyped events
    → Holds publication (model_behind publication says tallies slips events)

-- all rules, of each site
pub record RulesHold (publication : Publication) (m : Model) : Type 0 where
  pub publisher : of_publisher.KeepRules publication (new_holders publication) (publisher_stored m.world.publisher)
  pub subscribers : (n : ℕ) (s : SubscriberTables) → at_number m.world.subscribers n ≡ Some s → of_subscriber.KeepRules publication (new_holders publication) (subscriber_stored s)

-- and so the store that is written of its tables loads, and gives these tables
pub record StoresLoad (publication : Publication) (m : Model) : Type 0 where
  pub publisher : start_publisher.publisher_loaded publication (new_holders publication) (publisher_records (publisher_stored m.world.publisher)) ≡ Ok (publisher_stored m.world.publisher)
  pub subscribers : (n : ℕ) (s : SubscriberTables) → at_number m.world.subscribers n ≡ Some s
      → start_subscriber.subscriber_loaded publication s.site (new_holders publication) (subscriber_records (subscriber_stored s)) ≡ Ok (subscriber_stored s)
