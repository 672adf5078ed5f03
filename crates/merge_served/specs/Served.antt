-- What stands in the journal of a publisher that serves, as the actions of a world go by, and what its tables are then.
use Rattle.std.specs.Prelude.{All, Bool, Err, List, None, Ok, Option, Result, Some, [], false, map, true, ℕ, ◌++◌, ◌==◌, ◌∷◌, ◌≡◌}
use Rattle.merge_types.specs.declared.identifiers.Moment.{Moment}
use Rattle.merge_units.specs.declared.result.Decision.{Decision}
use Rattle.merge_schema.specs.Valid.{IsValid}
use Rattle.merge_schema.specs.declared.publication.Publication.{Publication}
use Rattle.merge_batch.specs.declared.request.Request.{Request}
use Rattle.merge_model.specs.Failing.{Faulty, Slips, faulty}
use Rattle.merge_model.specs.Failing.Reach.{stepping}
use Rattle.merge_model.specs.Failing.Runs.{after_actions, machine_does, model_behind_actions, model_does, world_behind_actions}
use Rattle.merge_model.specs.Laws.SlipLaws.{is_slip, refused_for}
use Rattle.merge_model.specs.Publisher.{later}
use Rattle.merge_model.specs.World.Calls.{result_of_request}
use Rattle.merge_model.specs.World.Steps.{Action, CloseAt, Deliver, Forget, Make}
use Rattle.merge_model.specs.Tables.{PublisherTables}
use Rattle.merge_model.specs.World.{Saying, World, empty_world, letter_at}
use Rattle.merge_model.specs.declared.letter.Letter.{Letter}
use Rattle.merge_model.specs.declared.letter.Message.TheVariants.{Asks, Replies}
use Rattle.merge_model.specs.declared.outcome.Outcome.{Outcome}
use Rattle.merge_laws.specs.Laws.Promised.{Promised}
use Rattle.merge_draft.specs.Drafting.{result_with_decisions}
use Rattle.merge_desk.specs.Replay.{AreDecided, answer_to, entry_decisions, replay}
use Rattle.merge_desk.specs.declared.entry.Entry.{Entry}
use Rattle.merge_served.specs.Tallies.{SaysTheSameAtAnyTally}

-- a request that was taken: at which moment, and what the decisions on its conflicts counted as
pub record AttendedRequest : Type 0 where
  pub moment : Moment
  pub request : Request
  pub decisions : List Decision

-- the same without the decisions
pub record TakenRequest : Type 0 where
  pub moment : Moment
  pub request : Request

abbrev pub taken_as : AttendedRequest → TakenRequest
taken_as a = record { moment = a.moment; request = a.request }

-- a request that is refused changes nothing, and so it need not have come
abbrev pub if_taken : {A E : Type 0} → Result A E → AttendedRequest → List AttendedRequest
if_taken (Ok made) a = a ∷ []
if_taken (Err why) a = []

-- an entry that comes to these tables: the publisher takes the later of its moment and the last one that it took
abbrev pub attended_at : PublisherTables → Entry → AttendedRequest
attended_at p e = record { moment = later e.moment p.latest; request = e.request; decisions = e.decisions }

-- the requests of a journal that were taken, one entry after the other from these tables on
abbrev pub attended_in : Publication → PublisherTables → List Entry → List AttendedRequest
attended_in publication p [] = []
attended_in publication p (e ∷ es) =
    if_taken (result_with_decisions publication e.moment e.request e.decisions p) (attended_at p e) ++ attended_in publication (answer_to publication p e).0 es

-- The publisher only serves: it makes no change, closes nothing by itself and purges nothing. Its sites may do all that they can.
abbrev pub IsServing : Action → Type 0
IsServing (Make site change) = (site.0 == 0) ≡ false
IsServing (CloseAt site) = (site.0 == 0) ≡ false
IsServing Forget = ⊥
IsServing action = Unit {0}

-- a request that failed, by a fault of the store or for want of memory, changes nothing either
abbrev pub unless_failed : Bool → List AttendedRequest → List AttendedRequest
unless_failed true attended = []
unless_failed false attended = attended

module _ (publication : Publication) (says : Saying) where
  -- what the publisher takes of a message that comes
  abbrev pub asked_by : World → Option Letter → List AttendedRequest
  asked_by w None = []
  asked_by w (Some letter) = elim letter.message [
    | Asks m ↦ if_taken (result_of_request publication says w.tallies w.moment m w.publisher) (record {
      moment = later w.moment w.publisher.latest;
      request = m;
      decisions = entry_decisions publication says w.tallies w.moment m w.publisher;
    })
    | Replies m ↦ []
  ]

  -- what the publisher takes by an action
  abbrev pub attended_by : World → Action → Outcome → List AttendedRequest
  attended_by w (Deliver number) outcome = unless_failed (refused_for is_slip outcome) (asked_by w (letter_at w number))
  attended_by w action outcome = []

  -- what it takes by all of them, one after the other
  abbrev pub attended : Faulty World → List Action → List AttendedRequest
  attended f [] = []
  attended f (action ∷ actions) = let done = (stepping publication says).act f action in attended_by f.world action done.1 ++ attended done.0 actions

-- The journal of a publisher that served while actions went by leads from its tables before them to those behind them. Of entries that
-- are refused nothing is asked, and of moments only what the publisher takes them for: they may fall.
abbrev pub JournalsAreRuns : Type 0
JournalsAreRuns = (publication : Publication) (says : Saying) (f : Faulty World) (actions : List Action) → All IsServing actions
    → (journal : List Entry) → attended_in publication f.world.publisher journal ≡ attended publication says f actions
    → replay publication f.world.publisher journal ≡ (after_actions (stepping publication says) f actions).world.publisher

-- Where no resolver asks how often it was asked, the decisions of its entries are those of the world as soon as the requests and their
-- moments are: each entry's may have been made at any tallies.
abbrev pub RequestsTellDecisions : Type 0
RequestsTellDecisions = (publication : Publication) (says : Saying) → SaysTheSameAtAnyTally says → (f : Faulty World) (actions : List Action) → All IsServing actions
    → (journal : List Entry) → AreDecided publication says f.world.publisher journal
    → map taken_as (attended_in publication f.world.publisher journal) ≡ map taken_as (attended publication says f actions)
    → attended_in publication f.world.publisher journal ≡ attended publication says f actions

-- the world behind some actions, with the slips that are still to come
abbrev pub world_at : Publication → Saying → List ℕ → Slips → List Action → Faulty World
world_at publication says tallies slips actions = after_actions (stepping publication says) (faulty (empty_world publication tallies) slips) actions

-- A publisher has its tables in the world behind these actions. Where the same steps fail in the model, the same comes of the same actions, it has the tables of that world, and all is promised of it.
pub record StandsBehind (publication : Publication) (says : Saying) (tallies : List ℕ) (slips : Slips) (actions : List Action) (publisher : PublisherTables) : Type 0 where
  pub tables : publisher ≡ (world_behind_actions publication says tallies slips actions).publisher
  pub same_outcomes : model_does publication says tallies slips actions ≡ machine_does publication says tallies slips actions
  pub same_tables : (model_behind_actions publication says tallies slips actions).world ≡ world_behind_actions publication says tallies slips actions
  pub promised : Promised publication says (model_behind_actions publication says tallies slips actions)

-- So it is with one that served among sites of a world, whose journal this is.
abbrev pub ServedWorldsHavePromises : Type 0
ServedWorldsHavePromises = (resolvers : ℕ) (publication : Publication) → IsValid resolvers publication → (says : Saying) (tallies : List ℕ) (slips : Slips)
    (before during : List Action) → All IsServing during → (journal : List Entry)
    → attended_in publication (world_at publication says tallies slips before).world.publisher journal ≡ attended publication says (world_at publication says tallies slips before) during
    → StandsBehind publication says tallies slips (before ++ during) (replay publication (world_at publication says tallies slips before).world.publisher journal)

-- So it is where resolvers decided the journal that say the same however often they were asked: of the decisions and the tallies of its
-- entries nothing more is asked.
abbrev pub ServedJournalsHavePromises : Type 0
ServedJournalsHavePromises = (resolvers : ℕ) (publication : Publication) → IsValid resolvers publication → (says : Saying) → SaysTheSameAtAnyTally says → (tallies : List ℕ) (slips : Slips)
    (before during : List Action) → All IsServing during
    → (journal : List Entry) → AreDecided publication says (world_at publication says tallies slips before).world.publisher journal
    → map taken_as (attended_in publication (world_at publication says tallies slips before).world.publisher journal)
    ≡ map taken_as (attended publication says (world_at publication says tallies slips before) during)
    → StandsBehind publication says tallies slips (before ++ during) (replay publication (world_at publication says tallies slips before).world.publisher journal)
