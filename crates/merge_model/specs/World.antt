-- The world: all sites, all messages that were ever made, and the moment.
-- The room holds what happens in it: steps, calls, sessions, events, reports, and what is wrong in a message.
pub mod Steps
pub mod Calls
pub mod Faults
pub mod Session
pub mod Parts
pub mod Naming
pub mod Events
pub mod Reports
use Rattle.std.specs.Prelude.{List, None, Option, [], map, slice_get, suc, zero, ℕ}
use Rattle.merge_types.specs.declared.identifiers.Moment.{Moment}
use Rattle.merge_types.specs.declared.identifiers.SiteId.{SiteId}
use Rattle.merge_units.specs.declared.result.Decision.{Decision}
use Rattle.merge_resolve.specs.declared.case.ConflictCase.{ConflictCase}
use Rattle.merge_schema.specs.declared.publication.Publication.{Publication}
use Rattle.merge_schema.specs.declared.publication.Subscription.{Subscription}
use Rattle.merge_model.specs.Judge.ByNumbers.{by_numbers, by_rows}
use Rattle.merge_model.specs.Judge.{PublisherJudge, SubscriberJudge}
use Rattle.merge_model.specs.Tables.Keys.{at_number, put_number}
use Rattle.merge_model.specs.Tables.Publications.{by_site}
use Rattle.merge_model.specs.Publisher.{empty_publisher}
use Rattle.merge_model.specs.Subscriber.{empty_subscriber}
use Rattle.merge_model.specs.Tables.{PublisherTables, SubscriberTables}
use Rattle.merge_model.specs.declared.letter.Letter.{Letter}

pub record World : Type 0 where
  pub publisher : PublisherTables
  -- by site
  pub subscribers : List (ℕ × SubscriberTables)
  -- numbered from 1 in the order in which they were made; each stays, and may come any number of times
  pub pool : List Letter
  pub moment : Moment
  -- how often each resolver was asked
  pub tallies : List ℕ

abbrev pub empty_subscribers : Publication → List (ℕ × SubscriberTables)
empty_subscribers publication = map (λ (s : ℕ × Subscription). (s.0, empty_subscriber publication s.1.site)) (by_site publication)

abbrev pub empty_world : Publication → List ℕ → World
empty_world publication tallies = record {
  publisher = empty_publisher publication;
  subscribers = empty_subscribers publication;
  pool = [];
  moment = record { 0 = 0 };
  tallies = tallies;
}

abbrev pub subscriber_at : World → SiteId → Option SubscriberTables
subscriber_at w site = at_number w.subscribers site.0

abbrev pub with_publisher : PublisherTables → World → World
with_publisher p w = record w { publisher = p }

abbrev pub with_subscriber : SubscriberTables → World → World
with_subscriber s w = record w { subscribers = put_number w.subscribers s.site.0 s }

abbrev pub letter_at : World → ℕ → Option Letter
letter_at w zero = None
letter_at w (suc number) = slice_get w.pool number

-- what the sites decide by: the publisher, where the message with a number comes in, and each subscriber
pub record Judges : Type 0 where
  pub publisher : ℕ → PublisherJudge
  pub subscriber : SiteId → SubscriberTables → SubscriberJudge

-- by what the tables hold alone
abbrev pub by_tables : World → Judges
by_tables w = record {
  publisher = λ (number : ℕ). by_numbers w.publisher;
  subscriber = λ (site : SiteId). by_rows;
}

-- What a resolver at a place says when it was asked so often before; none where no resolver stands there.
abbrev pub Saying : Type 0
Saying = ℕ → ℕ → ConflictCase → Option Decision
