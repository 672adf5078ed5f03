-- Each line of the history that says that a row left a site's partition was written by a step that saw it.
use Rattle.std.specs.Prelude.{List, [], false, map, true, ◌++◌, ◌≡◌, ◌⊎◌, ◌∷◌, ℕ}
use Rattle.merge_gens.specs.declared.moves.RowSite.{RowSite}
use Rattle.merge_schema.specs.Valid.{IsValid}
use Rattle.merge_schema.specs.declared.publication.Publication.{Publication}
use Rattle.merge_batch.specs.declared.request.Upload.{Upload}
use Rattle.merge_model.specs.Failing.{Faulty, Slips, faulty}
use Rattle.merge_model.specs.History.{LeftFor, Line}
use Rattle.merge_model.specs.History.Model.{Model, empty_model}
use Rattle.merge_model.specs.Publisher.Acts.{acting_items, key_of_item}
use Rattle.merge_model.specs.Publisher.PublisherUpload.{brings_news}
use Rattle.merge_model.specs.Tables.Keys.{has_key}
use Rattle.merge_model.specs.Tables.{PublisherTables}
use Rattle.merge_model.specs.World.Steps.{Action, Deliver}
use Rattle.merge_model.specs.World.{Saying}
use Rattle.merge_model.specs.declared.event.Event.{Event}
use Rattle.merge_laws.specs.Laws.ActsOnce.{IsUpload}
use Rattle.merge_laws.specs.Laws.Effects.{behind_actions, history_judge}
use Rattle.merge_owed.specs.Mappings.{is_inside}
use Rattle.merge_owed.specs.Purged.{model_behind_events}

-- An upload that this very site sent comes to the publisher, it is more than answered, and an item of the row acts.
pub record ItsUploadActs (m : Model) (action : Action) (place : RowSite) : Type 0 where
  pub number : ℕ
  pub upload : Upload
  pub delivered : action ≡ Deliver number
  pub sent : IsUpload m number upload.site upload
  pub own : upload.site.0 ≡ place.site
  pub news : brings_news (history_judge m number) upload ≡ true
  pub acts : has_key (map key_of_item (acting_items (history_judge m number) upload)) place.key ≡ true

-- A step, from a model to the publisher's tables behind it, saw the row leave: it is outside of the site's partition behind the step,
-- and was inside before, or the site's own upload acts on it.
pub record SawLeave (publication : Publication) (m : Model) (action : Action) (after : PublisherTables) (place : RowSite) : Type 0 where
  pub outside : is_inside publication after place ≡ false
  pub seen : (is_inside publication m.world.publisher place ≡ true) ⊎ ItsUploadActs m action place

-- One of the actions wrote the line, which stands above those that are older, and saw the row leave.
pub record WasSeenByActions (publication : Publication) (says : Saying) (f : Faulty Model) (actions : List Action) (older : List Line) (line : Line) (site : ℕ) : Type 0 where
  pub before : List Action
  pub action : Action
  pub later : List Action
  pub parts : actions ≡ before ++ action ∷ later
  -- the history has this line behind the action, and before it had no other than older ones
  pub newer : List Line
  pub written : (behind_actions publication says (behind_actions publication says f before) (action ∷ [])).world.history.lines ≡ newer ++ line ∷ older
  pub beside : List Line
  pub had : older ≡ beside ++ (behind_actions publication says f before).world.history.lines
  pub saw : SawLeave publication (behind_actions publication says f before).world action (behind_actions publication says (behind_actions publication says f before) (action ∷ [])).world.world.publisher (record { key = line.key; site = site })

-- The same of events: one of them is some steps, and one of these wrote the line.
pub record WasSeen (publication : Publication) (says : Saying) (f : Faulty Model) (events : List Event) (older : List Line) (line : Line) (site : ℕ) : Type 0 where
  pub before : List Event
  pub one : Event
  pub later : List Event
  pub parts : events ≡ before ++ one ∷ later
  pub steps : List Action
  pub are : behind_actions publication says (model_behind_events publication says f before) steps ≡ model_behind_events publication says (model_behind_events publication says f before) (one ∷ [])
  pub seen : WasSeenByActions publication says (model_behind_events publication says f before) steps older line site

-- Wherever the lines of the history are cut at one that says that a row left a site's partition, it was written so.
abbrev pub LeavingsWereSeen : (List Line → Line → ℕ → Type 0) → Model → Type 0
LeavingsWereSeen Seen m = (newer older : List Line) (line : Line) (site : ℕ) → m.history.lines ≡ newer ++ line ∷ older → line.kind ≡ LeftFor site → Seen older line site

-- Of a valid publication, with the model behind a run, by one of its events.
abbrev pub RunLeavingsWereSeen : Type 0
RunLeavingsWereSeen = (resolvers : ℕ) (publication : Publication) → IsValid resolvers publication → (says : Saying) (tallies : List ℕ) (slips : Slips) (events : List Event)
    → (let start : Faulty Model = faulty (empty_model publication tallies) slips in LeavingsWereSeen (WasSeen publication says start events) (model_behind_events publication says start events).world)

-- And of every list of actions, by one of them.
abbrev pub ActionLeavingsWereSeen : Type 0
ActionLeavingsWereSeen = (resolvers : ℕ) (publication : Publication) → IsValid resolvers publication → (says : Saying) (tallies : List ℕ) (slips : Slips) (actions : List Action)
    → (let start : Faulty Model = faulty (empty_model publication tallies) slips in LeavingsWereSeen (WasSeenByActions publication says start actions) (behind_actions publication says start actions).world)
