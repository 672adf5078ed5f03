-- Whatever comes to a publisher, in whatever order and whoever sent the messages, its tables keep the rules of a start.
use Rattle.std.specs.Prelude.{Err, List, Ok, Result, [], length, true, ℕ, ◌<◌, ◌^◌, ◌≡◌, ◌∷◌}
use Rattle.merge_types.specs.declared.changes.Change.{Change}
use Rattle.merge_types.specs.declared.identifiers.Moment.{Moment}
use Rattle.merge_schema.specs.Valid.{IsValid}
use Rattle.merge_schema.specs.declared.publication.Publication.{Publication}
use Rattle.merge_batch.specs.Articles.{has_article}
use Rattle.merge_batch.specs.LocalChanges.{article_of}
use Rattle.merge_batch.specs.declared.refusal.Refusal.{Refusal}
use Rattle.merge_batch.specs.declared.request.Request.{Request}
use Rattle.merge_keeper.specs.PublisherRules as of_publisher
use Rattle.merge_keeper.specs.PublisherStart as start_publisher
use Rattle.merge_keeper.specs.Stored.{publisher_records}
use Rattle.merge_model.specs.Judge.ByNumbers.{by_numbers}
use Rattle.merge_model.specs.Publisher.{close_generation, empty_publisher, new_holders}
use Rattle.merge_model.specs.Publisher.PublisherLocal.{local}
use Rattle.merge_model.specs.Publisher.PublisherPurge.{purge}
use Rattle.merge_model.specs.Tables.{PublisherTables}
use Rattle.merge_model.specs.World.Calls.{result_of_request}
use Rattle.merge_model.specs.World.{Saying}
use Rattle.merge_typed.specs.Outside.{ChangeIsTyped}
use Rattle.merge_typed.specs.Typed.{MomentFits}
use Rattle.merge_stored.specs.HasTypes.{RequestHasTypes}
use Rattle.merge_stored.specs.Stored.{publisher_stored}

-- the tables keep all rules that a start tests
abbrev pub PublisherKeeps : Publication → PublisherTables → Type 0
PublisherKeeps publication p = of_publisher.KeepRules publication (new_holders publication) (publisher_stored p)

-- as the tables of a new publisher do
abbrev pub NewPublishersKeep : Type 0
NewPublishersKeep = (resolvers : ℕ) (publication : Publication) → IsValid resolvers publication → PublisherKeeps publication (empty_publisher publication)

-- What comes: a message, where the resolvers say what they say and were asked so often before; or what the publisher does of itself
pub data Call : Type 0 where
  Receives : Saying → List ℕ → Moment → Request → Call
  Changes : Moment → Change → Call
  ClosesAt : Moment → Call
  PurgesAt : Moment → Call

-- what is refused changes nothing
abbrev pub unless_refused : {A : Type 0} → PublisherTables → Result (PublisherTables × A) Refusal → PublisherTables
unless_refused p (Ok done) = done.0
unless_refused p (Err refusal) = p

abbrev pub after_call : Publication → PublisherTables → Call → PublisherTables
after_call publication p (Receives says tallies now m) = unless_refused p (result_of_request publication says tallies now m p)
after_call publication p (Changes now change) = unless_refused p (local publication (by_numbers p) now change p)
after_call publication p (ClosesAt now) = unless_refused p (close_generation now p)
after_call publication p (PurgesAt now) = (purge publication now p).0

abbrev pub after_calls : Publication → PublisherTables → List Call → PublisherTables
after_calls publication p [] = p
after_calls publication p (call ∷ calls) = after_calls publication (after_call publication p call) calls

-- Values are those of their types, and a local change names an article that there is. Nothing else is asked of a call.
abbrev pub CallFits : Publication → Call → Type 0
CallFits publication (Receives says tallies now m) = MomentFits now × RequestHasTypes m
CallFits publication (Changes now change) = MomentFits now × ChangeIsTyped change × (has_article publication (article_of change) ≡ true)
CallFits publication (ClosesAt now) = MomentFits now
CallFits publication (PurgesAt now) = MomentFits now

-- and a list in memory has fewer than 2^64 members
abbrev pub CallsFit : Publication → PublisherTables → List Call → Type 0
CallsFit publication p [] = Unit {0}
CallsFit publication p (call ∷ calls) = (length p.rows < 2 ^ 64) × CallFits publication call × CallsFit publication (after_call publication p call) calls

-- of publications that a file can say, and a publisher that was started
abbrev pub AfterAnyCalls : (Publication → PublisherTables → Type 0) → Type 0
AfterAnyCalls Holds = (resolvers : ℕ) (publication : Publication) → IsValid resolvers publication → (p : PublisherTables) → PublisherKeeps publication p → (calls : List Call) → CallsFit publication p calls → Holds publication (after_calls publication p calls)

-- the store that is written of the tables loads, and gives these tables
abbrev pub TablesLoad : Publication → PublisherTables → Type 0
TablesLoad publication p = start_publisher.publisher_loaded publication (new_holders publication) (publisher_records (publisher_stored p)) ≡ Ok (publisher_stored p)
