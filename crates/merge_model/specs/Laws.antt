-- What holds of every step.
-- The room holds all that is promised or said of steps, calls and runs.
pub mod Promises
pub mod Bridge
pub mod SlipLaws
pub mod Quiet
use Rattle.std.specs.List.{AllByRecursion, list_all}
use Rattle.std.specs.List.Sorted.{IsStrictlySortedBy}
use Rattle.std.specs.Map.{keys_of}
use Rattle.std.specs.Ordering.{nat_cmp}
use Rattle.std.specs.Prelude.{All, Bool, IfOk, List, false, not, true, ℕ, ◌≡◌, ◌≤◌}
use Rattle.merge_types.specs.declared.changes.Change.{Change}
use Rattle.merge_types.specs.declared.identifiers.Moment.{Moment}
use Rattle.merge_units.specs.declared.result.Decision.{Decision}
use Rattle.merge_gens.specs.Book.{IsSound}
use Rattle.merge_ident.specs.Books.{IsRule}
use Rattle.merge_ident.specs.Grants.{AreDisjoint}
use Rattle.merge_schema.specs.declared.publication.Publication.{Publication}
use Rattle.merge_batch.specs.declared.refusal.Refusal.{Refusal}
use Rattle.merge_batch.specs.declared.reply.Reply.{Reply}
use Rattle.merge_batch.specs.declared.request.Outstanding.{Outstanding}
use Rattle.merge_batch.specs.declared.request.Upload.{Upload}
use Rattle.merge_model.specs.World.Events.{after, happens, machine}
use Rattle.merge_model.specs.Failing.{Slips, faulty, faulty_stepping}
use Rattle.merge_model.specs.History.{History, is_done}
use Rattle.merge_model.specs.Judge.{PublisherJudge, SubscriberJudge}
use Rattle.merge_types.specs.RowKeys.{key_cmp}
use Rattle.merge_gens.specs.Moves.{row_site_cmp}
use Rattle.merge_model.specs.History.Model.{Model, model, model_step}
use Rattle.merge_model.specs.Laws.Promises.{NoneActsTwice, acting_generations}
use Rattle.merge_model.specs.Tables.Publications.{rules_of}
use Rattle.merge_model.specs.Failing.Runs.{model_behind, world_behind}
use Rattle.merge_model.specs.Publisher.{at_moment}
use Rattle.merge_model.specs.Publisher.PublisherUpload.{brings_news, upload}
use Rattle.merge_model.specs.Subscriber.Reinit.{reinitialise}
use Rattle.merge_model.specs.Subscriber.Sending.{with_message}
use Rattle.merge_model.specs.World.Steps.{Action, step, step_by}
use Rattle.merge_model.specs.declared.outcome.Outcome.TheVariants.{Refuses}
use Rattle.merge_model.specs.Subscriber.{close_subscriber_generation, subscriber_at_moment, subscriber_closed, subscriber_local}
use Rattle.merge_model.specs.Tables.{PublisherTables, SubscriberTables}
use Rattle.merge_model.specs.Subscriber.Taking.{take_reply}
use Rattle.merge_model.specs.World.{Judges, Saying, World}
use Rattle.merge_model.specs.declared.event.Event.{Event}
use Rattle.merge_model.specs.declared.event.Event.TheVariants as event

-- A step that is refused changes nothing, by whatever the sites decide.
abbrev pub RefusedChangesNothing : Type 0
RefusedChangesNothing = (publication : Publication) (says : Saying) (judges : Judges) (w : World) (action : Action) (refusal : Refusal)
    → (step_by publication says judges w action).1 ≡ Refuses refusal → (step_by publication says judges w action).0 ≡ w

abbrev pub RefusedNotesNothing : Type 0
RefusedNotesNothing = (publication : Publication) (says : Saying) (m : Model) (action : Action) (refusal : Refusal)
    → (model_step publication says m action).1 ≡ Refuses refusal → (model_step publication says m action).0 ≡ m

-- Reports and restarts change nothing.
abbrev pub is_report : Event → Bool
is_report (event.Restart site) = true
is_report (event.Show site article) = true
is_report (event.Partition site) = true
is_report (event.Conflicts site) = true
is_report (event.Ranges site) = true
is_report (event.Generations site) = true
is_report (event.Count site) = true
is_report other = false

abbrev pub ReportsChangeNothing : Type 0
ReportsChangeNothing = (publication : Publication) (says : Saying) (w : World) (e : Event) → is_report e ≡ true → (happens publication (machine publication says) w e).0 ≡ w

abbrev pub ReportsNoteNothing : Type 0
ReportsNoteNothing = (publication : Publication) (says : Saying) (m : Model) (e : Event) → is_report e ≡ true → (happens publication (model publication says) m e).0 ≡ m

-- An upload whose generations have all acted changes nothing but the moment.
abbrev pub AnsweredUploadChangesNothing : Type 0
AnsweredUploadChangesNothing = (publication : Publication) (judge : PublisherJudge) (now : Moment) (m : Upload) (decisions : List Decision) (p : PublisherTables)
    → brings_news judge m ≡ false → IfOk (upload publication judge now m decisions p) (λ done. done.0 ≡ at_moment now p)

-- What every step keeps of a world, every session keeps, and so does every event and every list of events.
abbrev pub KeptBySteps : (Publication → Saying → World → Bool) → Type 0
KeptBySteps keeps = (publication : Publication) (says : Saying) (w : World) (action : Action) → keeps publication says w ≡ true → keeps publication says (step publication says w action).0 ≡ true

abbrev pub EventsKeepWhatStepsKeep : Type 0
EventsKeepWhatStepsKeep = (keeps : Publication → Saying → World → Bool) → KeptBySteps keeps → (publication : Publication) (says : Saying) (events : List Event) (w : World)
    → keeps publication says w ≡ true → keeps publication says (after publication (machine publication says) w events) ≡ true

-- Where steps may fail, so is what other tallies of resolvers keep too.
abbrev pub KeptByTallies : (Publication → Saying → World → Bool) → Type 0
KeptByTallies keeps = (publication : Publication) (says : Saying) (w : World) (tallies : List ℕ) → keeps publication says w ≡ true → keeps publication says (record w { tallies = tallies }) ≡ true

abbrev pub FailingEventsKeepWhatStepsKeep : Type 0
FailingEventsKeepWhatStepsKeep = (keeps : Publication → Saying → World → Bool) → KeptBySteps keeps → KeptByTallies keeps → (publication : Publication) (says : Saying) (slips : Slips) (events : List Event) (w : World)
    → keeps publication says w ≡ true → keeps publication says (after publication (faulty_stepping publication (machine publication says)) (faulty w slips) events).world ≡ true

-- Numbers of the publisher only rise: its changes, its closed generations, its conflict rows and its moment.
pub record PublisherRises (before after : PublisherTables) : Type 0 where
  pub changes_rise : before.changes ≤ after.changes
  pub closed_rises : before.gens.filling.last_closed ≤ after.gens.filling.last_closed
  pub conflicts_rise : before.conflict_count ≤ after.conflict_count
  pub latest_rises : before.latest.0 ≤ after.latest.0

abbrev pub PublisherNumbersRise : Type 0
PublisherNumbersRise = (publication : Publication) (says : Saying) (judges : Judges) (w : World) (action : Action) → PublisherRises w.publisher (step_by publication says judges w action).0.publisher

-- No two grants of an article overlap, after every list of events in which steps may fail, of the machine and of the model.
abbrev pub RangesNeverOverlap : Type 0
RangesNeverOverlap = (publication : Publication) → All IsRule (rules_of publication) → (says : Saying) (tallies : List ℕ) (slips : Slips) (events : List Event)
    → AreDisjoint (world_behind publication says tallies slips events).publisher.grants

abbrev pub ModelRangesNeverOverlap : Type 0
ModelRangesNeverOverlap = (publication : Publication) → All IsRule (rules_of publication) → (says : Saying) (tallies : List ℕ) (slips : Slips) (events : List Event)
    → AreDisjoint (model_behind publication says tallies slips events).world.publisher.grants

-- The publisher's lists of pairs ascend by their keys, so that none comes twice, after every list of events.
pub record AreSorted (p : PublisherTables) : Type 0 where
  pub rows_ascend : IsStrictlySortedBy key_cmp (keys_of p.rows)
  pub mappings_ascend : IsStrictlySortedBy row_site_cmp (keys_of p.mappings)
  pub sites_ascend : IsStrictlySortedBy nat_cmp (keys_of p.sites)
  pub generations_ascend : IsSound p.gens

abbrev pub PublisherStaysSorted : Type 0
PublisherStaysSorted = (publication : Publication) (says : Saying) (tallies : List ℕ) (slips : Slips) (events : List Event)
    → AreSorted (world_behind publication says tallies slips events).publisher

-- No generation acts twice: each of a site's generations comes once among those that have acted, after every list of events.
abbrev pub NoGenerationActsTwice : Type 0
NoGenerationActsTwice = (publication : Publication) (says : Saying) (tallies : List ℕ) (slips : Slips) (events : List Event)
    → NoneActsTwice (model_behind publication says tallies slips events)

-- and those of an upload that act have not acted before
abbrev pub ActingAreNew : Type 0
ActingAreNew = (h : History) (m : Upload) → list_all (λ (generation : ℕ). not (is_done h m.site.0 generation)) (acting_generations h m) ≡ true

-- A subscriber's numbers only rise by each of its calls: its changes, closed generations, messages and conflict rows, and its moment.
pub record SubscriberRises (before after : SubscriberTables) : Type 0 where
  pub changes_rise : before.changes ≤ after.changes
  pub closed_rises : before.gens.filling.last_closed ≤ after.gens.filling.last_closed
  pub seq_rises : before.seq ≤ after.seq
  pub conflicts_rise : before.conflict_count ≤ after.conflict_count
  pub latest_rises : before.latest.0 ≤ after.latest.0

pub record SubscriberNumbersRise : Type 0 where
  pub by_change : (publication : Publication) (now : Moment) (change : Change) (s : SubscriberTables) → IfOk (subscriber_local publication now change s) (λ done. SubscriberRises s done.0)
  pub by_close : (now : Moment) (s : SubscriberTables) → IfOk (close_subscriber_generation now s) (λ done. SubscriberRises s done.0)
  pub by_message : (sent : Outstanding) (s : SubscriberTables) → SubscriberRises s (with_message sent s)
  pub by_closing : (now : Moment) (s : SubscriberTables) → SubscriberRises s (subscriber_closed (subscriber_at_moment now s))
  pub by_reply : (publication : Publication) (judge : SubscriberJudge) (now : Moment) (m : Reply) (s : SubscriberTables) → IfOk (take_reply publication judge now m s) (λ done. SubscriberRises s done.0)
  pub by_anew : (judge : SubscriberJudge) (now : Moment) (s : SubscriberTables) → IfOk (reinitialise judge now s) (λ done. SubscriberRises s done.0)

-- Every subscriber's rows and closed generations ascend, after every list of events.
pub record SubscriberIsSorted (s : SubscriberTables) : Type 0 where
  pub rows_ascend : IsStrictlySortedBy key_cmp (keys_of s.rows)
  pub generations_ascend : IsSound s.gens

abbrev pub SubscribersStaySorted : Type 0
SubscribersStaySorted = (publication : Publication) (says : Saying) (tallies : List ℕ) (slips : Slips) (events : List Event)
    → AllByRecursion (λ (entry : ℕ × SubscriberTables). SubscriberIsSorted entry.1) (world_behind publication says tallies slips events).subscribers
