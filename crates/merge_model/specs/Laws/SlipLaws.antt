-- What holds of runs in which steps may fail.
use Rattle.std.specs.List.{list_any}
use Rattle.std.specs.Prelude.{Bool, List, Result, Some, false, true, ℕ, ◌≡◌, ◌≤◌}
use Rattle.merge_types.specs.declared.identifiers.SiteId.{SiteId}
use Rattle.merge_schema.specs.declared.publication.Publication.{Publication}
use Rattle.merge_batch.specs.declared.refusal.Refusal.{Refusal}
use Rattle.merge_batch.specs.declared.reply.Reply.{Reply}
use Rattle.merge_batch.specs.declared.request.Request.{Request}
use Rattle.merge_model.specs.declared.answer.Answer.{Answer}
use Rattle.merge_model.specs.declared.answer.Answer.TheVariants.{Refused, RefusedIn, Stopped}
use Rattle.merge_model.specs.World.Calls.{Called, Counted, questions_on, request_commits, result_of_request}
use Rattle.merge_model.specs.World.Events.{after, answers, machine}
use Rattle.merge_model.specs.Failing.{Slips, faulty, faulty_stepping}
use Rattle.merge_model.specs.History.Model.{Model, model}
use Rattle.merge_model.specs.World.Parts.{after_result}
use Rattle.merge_model.specs.Failing.Reach.{Acts, AreNone, stepping}
use Rattle.merge_model.specs.World.Steps.{Deliver}
use Rattle.merge_model.specs.Tables.{PublisherTables}
use Rattle.merge_model.specs.World.{Saying, World, letter_at}
use Rattle.merge_model.specs.declared.event.Event.{Event}
use Rattle.merge_model.specs.declared.letter.Message.TheVariants.{Asks}
use Rattle.merge_model.specs.declared.outcome.Outcome.{Outcome}
use Rattle.merge_model.specs.declared.outcome.Outcome.TheVariants.{Refuses}
use Rattle.merge_batch.specs.declared.refusal.Refusal.TheVariants as refusal

-- Answers that tell of refusals that pass a test: of an event, or of what ended a session
abbrev pub shows_refusal : (Refusal → Bool) → Answer → Bool
shows_refusal test (Refused refusal) = test refusal
shows_refusal test (RefusedIn article refusal) = test refusal
shows_refusal test (Stopped uploads downloads refusal) = test refusal
shows_refusal test answer = false

-- and outcomes of single steps that are such refusals
abbrev pub refused_for : (Refusal → Bool) → Outcome → Bool
refused_for test (Refuses refusal) = test refusal
refused_for test outcome = false

-- what a step is refused for that fails
abbrev pub is_slip : Refusal → Bool
is_slip refusal.NoMemory = true
is_slip refusal.StoreFault = true
is_slip other = false

-- A step that fails shows in the answer to its event. So where no answer says it, events are answered as by a world in
-- which no step can fail, and the same world is behind them.
abbrev pub FailuresShow : Type 0
FailuresShow = (publication : Publication) (says : Saying) (w : World) (slips : Slips) (events : List Event)
    → list_any (shows_refusal is_slip) (answers publication (stepping publication says) (faulty w slips) events) ≡ false
    → (answers publication (stepping publication says) (faulty w slips) events ≡ answers publication (machine publication says) w events)
    × ((after publication (stepping publication says) (faulty w slips) events).world ≡ after publication (machine publication says) w events)

-- And the same of the model.
abbrev pub FailuresShowInModel : Type 0
FailuresShowInModel = (publication : Publication) (says : Saying) (m : Model) (slips : Slips) (events : List Event)
    → list_any (shows_refusal is_slip) (answers publication (faulty_stepping publication (model publication says)) (faulty m slips) events) ≡ false
    → (answers publication (faulty_stepping publication (model publication says)) (faulty m slips) events ≡ answers publication (model publication says) m events)
    × ((after publication (faulty_stepping publication (model publication says)) (faulty m slips) events).world ≡ after publication (model publication says) m events)

-- Where no step fails, events are answered as by a world in which none can, and the same world is behind them.
abbrev pub NoneFails : Type 0
NoneFails = (publication : Publication) (says : Saying) (w : World) (slips : Slips) (events : List Event) → AreNone slips
    → (answers publication (stepping publication says) (faulty w slips) events ≡ answers publication (machine publication says) w events)
    × ((after publication (stepping publication says) (faulty w slips) events).world ≡ after publication (machine publication says) w events)

-- And the same of the model.
abbrev pub NoneFailsInModel : Type 0
NoneFailsInModel = (publication : Publication) (says : Saying) (m : Model) (slips : Slips) (events : List Event) → AreNone slips
    → (answers publication (faulty_stepping publication (model publication says)) (faulty m slips) events ≡ answers publication (model publication says) m events)
    × ((after publication (faulty_stepping publication (model publication says)) (faulty m slips) events).world ≡ after publication (model publication says) m events)

-- A call of the publisher that makes a request, or fails, is a step of a world that may fail, whatever else is in it and
-- whatever faults are counted since.
abbrev pub CallsAreSteps : Type 0
CallsAreSteps = (publication : Publication) (says : Saying) (w : World) (number : ℕ) (site : SiteId) (m : Request) (new : PublisherTables) (tallies : List ℕ) (before now after : ℕ) (result : Result Reply Refusal)
    → letter_at w number ≡ Some (record { site = site; message = Asks m })
    → Called (result_of_request publication says w.tallies w.moment m w.publisher) (request_commits publication w.moment m w.publisher) w.publisher new before now result
    → now ≤ after
    → Counted (result_of_request publication says w.tallies w.moment m w.publisher) (questions_on publication w.moment m w.publisher) w.tallies tallies result
    → Acts publication says (Deliver number) w (after_result result site w new tallies).0 (after_result result site w new tallies).1 before after
