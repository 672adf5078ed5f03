-- What a subscriber does, from its first tables on or from a start: any steps in any order, whoever made the replies that come.
use Rattle.std.specs.Prelude.{Err, List, None, Ok, Option, Result, Some, [], length, true, ℕ, ◌≡◌, ◌≤◌, ◌∷◌}
use Rattle.merge_types.specs.Limits.{counter_limit}
use Rattle.merge_types.specs.declared.changes.Change.{Change}
use Rattle.merge_types.specs.declared.identifiers.Moment.{Moment}
use Rattle.merge_types.specs.declared.identifiers.SiteId.{SiteId}
use Rattle.merge_schema.specs.Places.{is_subscription}
use Rattle.merge_schema.specs.Valid.{IsValid}
use Rattle.merge_schema.specs.declared.publication.Publication.{Publication}
use Rattle.merge_batch.specs.Articles.{has_article}
use Rattle.merge_batch.specs.LocalChanges.{article_of}
use Rattle.merge_batch.specs.declared.refusal.Refusal.{Refusal}
use Rattle.merge_batch.specs.declared.reply.Reply.{Reply}
use Rattle.merge_ports.specs.Entries.{Map}
use Rattle.merge_keeper.specs.Given.{IsMap}
use Rattle.merge_keeper.specs.Stored.{subscriber_records}
use Rattle.merge_keeper.specs.SubscriberStart as start_subscriber
use Rattle.merge_model.specs.Judge.ByNumbers.{by_rows}
use Rattle.merge_model.specs.Publisher.{new_holders}
use Rattle.merge_model.specs.Subscriber.Reinit.{reinitialise}
use Rattle.merge_model.specs.Subscriber.Sending.{make_ask, make_join, make_ranges, make_upload}
use Rattle.merge_model.specs.Subscriber.Taking.{take_reply}
use Rattle.merge_model.specs.Subscriber.{close_subscriber_generation, empty_subscriber, subscriber_local}
use Rattle.merge_model.specs.Tables.{SubscriberTables}
use Rattle.merge_typed.specs.Outside.{ChangeIsTyped}
use Rattle.merge_typed.specs.Typed.{MomentFits}
use Rattle.merge_stored.specs.AnyReply.{SubscriberKeeps}
use Rattle.merge_stored.specs.HasTypes.{ReplyHasTypes}
use Rattle.merge_stored.specs.Stored.{subscriber_stored}

-- a reply, whoever made it; a change; or what the site makes of itself
pub data Step : Type 0 where
  Takes : Moment → Reply → Step
  Changes : Moment → Change → Step
  ClosesAt : Moment → Step
  Joins : Step
  UploadsAt : Moment → Step
  AsksForRanges : Step
  AsksForRows : Step
  BeginsAnewAt : Moment → Step

-- what is refused changes nothing, nor does a message that is not made
abbrev pub unless_refused : {A : Type 0} → SubscriberTables → Result (SubscriberTables × A) Refusal → SubscriberTables
unless_refused s (Ok done) = done.0
unless_refused s (Err refusal) = s

abbrev pub where_made : {A : Type 0} → SubscriberTables → Result (Option (SubscriberTables × A)) Refusal → SubscriberTables
where_made s (Ok (Some made)) = made.0
where_made s (Ok None) = s
where_made s (Err refusal) = s

abbrev pub after_step : Publication → SubscriberTables → Step → SubscriberTables
after_step publication s (Takes now m) = unless_refused s (take_reply publication (by_rows s) now m s)
after_step publication s (Changes now change) = unless_refused s (subscriber_local publication now change s)
after_step publication s (ClosesAt now) = unless_refused s (close_subscriber_generation now s)
after_step publication s Joins = where_made s (make_join s)
after_step publication s (UploadsAt now) = where_made s (make_upload (by_rows s) now s)
after_step publication s AsksForRanges = where_made s (make_ranges s)
after_step publication s AsksForRows = unless_refused s (make_ask s)
after_step publication s (BeginsAnewAt now) = unless_refused s (reinitialise (by_rows s) now s)

abbrev pub after_steps : Publication → SubscriberTables → List Step → SubscriberTables
after_steps publication s [] = s
after_steps publication s (step ∷ steps) = after_steps publication (after_step publication s step) steps

-- Values are those of their types, a local change names an article that there is, and rows that may be discarded are in memory.
abbrev pub StepFits : Publication → SubscriberTables → Step → Type 0
StepFits publication s (Takes now m) = MomentFits now × ReplyHasTypes m
StepFits publication s (Changes now change) = MomentFits now × ChangeIsTyped change × (has_article publication (article_of change) ≡ true)
StepFits publication s (ClosesAt now) = MomentFits now
StepFits publication s (UploadsAt now) = MomentFits now
StepFits publication s (BeginsAnewAt now) = MomentFits now × (length s.rows ≤ counter_limit)
StepFits publication s step = Unit {0}

abbrev pub StepsFit : Publication → SubscriberTables → List Step → Type 0
StepsFit publication s [] = Unit {0}
StepsFit publication s (step ∷ steps) = StepFits publication s step × StepsFit publication (after_step publication s step) steps

abbrev pub AfterAnySteps : (Publication → SubscriberTables → Type 0) → Type 0
AfterAnySteps Holds = (resolvers : ℕ) (publication : Publication) → IsValid resolvers publication → (s : SubscriberTables) → SubscriberKeeps publication s → (steps : List Step) → StepsFit publication s steps → Holds publication (after_steps publication s steps)

-- the store that is written of the tables loads, and gives these tables
abbrev pub TablesLoad : Publication → SubscriberTables → Type 0
TablesLoad publication s = start_subscriber.subscriber_loaded publication s.site (new_holders publication) (subscriber_records (subscriber_stored s)) ≡ Ok (subscriber_stored s)

-- A subscriber begins with such tables, and every start gives such tables.
abbrev pub NewSubscribersKeepRules : Type 0
NewSubscribersKeepRules = (resolvers : ℕ) (publication : Publication) → IsValid resolvers publication → (site : SiteId) → is_subscription publication site.0 ≡ true → SubscriberKeeps publication (empty_subscriber publication site)

abbrev pub StartedSubscribersKeepRules : Type 0
StartedSubscribersKeepRules = (resolvers : ℕ) (publication : Publication) → IsValid resolvers publication → (site : SiteId) → is_subscription publication site.0 ≡ true → (es : Map) → IsMap es → (s : SubscriberTables)
    → start_subscriber.subscriber_loaded publication site (new_holders publication) es ≡ Ok (subscriber_stored s) → SubscriberKeeps publication s
