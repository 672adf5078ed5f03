-- Where what comes from outside is of its types, so are the tables and messages of every run.
use Rattle.std.specs.List.{AllByRecursion}
use Rattle.std.specs.Prelude.{All, List, Some, ℕ, ◌≡◌}
use Rattle.merge_ident.specs.Books.{IsRule}
use Rattle.merge_schema.specs.declared.publication.Publication.{Publication}
use Rattle.merge_model.specs.Failing.{Slips}
use Rattle.merge_model.specs.Tables.Keys.{at_number}
use Rattle.merge_model.specs.History.Model.{Model}
use Rattle.merge_model.specs.Tables.Publications.{rules_of}
use Rattle.merge_model.specs.Failing.Runs.{model_behind}
use Rattle.merge_model.specs.Tables.{SubscriberTables}
use Rattle.merge_model.specs.World.{Saying}
use Rattle.merge_model.specs.declared.event.Event.{Event}
use Rattle.merge_typed.specs.Messages.{LetterIsTyped}
use Rattle.merge_typed.specs.Outside.{EventsAreTyped, PublicationIsTyped}
use Rattle.merge_typed.specs.Typed.{PublisherIsTyped, SubscriberIsTyped}

-- what a model is after some events, whatever they were, where the publication's ranges have values
abbrev pub OfEveryTypedRun : (Model → Type 0) → Type 0
OfEveryTypedRun Holds = (publication : Publication) → All IsRule (rules_of publication) → PublicationIsTyped publication → (says : Saying) (tallies : List ℕ) (slips : Slips) (events : List Event) → EventsAreTyped events
    → Holds (model_behind publication says tallies slips events)

pub record TablesAreTyped (m : Model) : Type 0 where
  pub publisher : PublisherIsTyped m.world.publisher
  pub subscribers : (n : ℕ) (s : SubscriberTables) → at_number m.world.subscribers n ≡ Some s → SubscriberIsTyped s

abbrev pub MessagesAreTyped : Model → Type 0
MessagesAreTyped m = AllByRecursion LetterIsTyped m.world.pool
