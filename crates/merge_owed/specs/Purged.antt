-- What the publisher accepted of a row and no longer has, a purge of the run took.
use Rattle.std.specs.Prelude.{List, None, Some, [], true, ◌++◌, ◌↔◌, ◌≡◌, ◌⊎◌, ◌∷◌, ℕ}
use Rattle.merge_types.specs.declared.identifiers.Dot.{Dot}
use Rattle.merge_types.specs.declared.row_key.RowKey.{RowKey as Key}
use Rattle.merge_units.specs.declared.site_row.PublisherRow.{PublisherRow}
use Rattle.merge_schema.specs.Valid.{IsValid}
use Rattle.merge_schema.specs.declared.publication.Publication.{Publication}
use Rattle.merge_model.specs.World.Events.{after}
use Rattle.merge_model.specs.Failing.{Faulty, Slips, faulty, faulty_stepping}
use Rattle.merge_model.specs.History.{has, is_accepted, past_at}
use Rattle.merge_model.specs.Tables.Keys.{has_key, row_at}
use Rattle.merge_model.specs.History.Model.{Model, empty_model, model}
use Rattle.merge_model.specs.Publisher.PublisherPurge.{is_old_tombstone}
use Rattle.merge_model.specs.World.Steps.{Action, Forget}
use Rattle.merge_model.specs.World.{Saying}
use Rattle.merge_model.specs.declared.event.Event.{Event}
use Rattle.merge_model.specs.declared.event.Event.TheVariants as event
use Rattle.merge_laws.specs.Facts.Knowledge.{is_made}
use Rattle.merge_laws.specs.Laws.Effects.{behind_actions}
use Rattle.merge_owed.specs.Forgotten.{going_over}

-- behind some events, with the slips that are left
abbrev pub model_behind_events : Publication → Saying → Faulty Model → List Event → Faulty Model
model_behind_events publication says f events = after publication (faulty_stepping publication (model publication says)) f events

-- One of the events is a purge. As it comes the row is deleted, and its last change stands in a generation that closed longer ago
-- than the retention and one day more; behind it the row is gone.
pub record WasPurged (publication : Publication) (says : Saying) (f : Faulty Model) (events : List Event) (key : Key) : Type 0 where
  pub before : List Event
  pub later : List Event
  pub parts : events ≡ before ++ event.Purge ∷ later
  pub row : PublisherRow
  pub held : row_at (model_behind_events publication says f before).world.world.publisher.rows key ≡ Some row
  pub old : is_old_tombstone publication (going_over (model_behind_events publication says f before).world) (key, row) ≡ true
  pub gone : row_at (model_behind_events publication says (model_behind_events publication says f before) (event.Purge ∷ [])).world.world.publisher.rows key ≡ None

-- of a valid publication, with the model behind a run, and whether a purge of the run took a row
abbrev pub OfEveryPurgingRun : ((Key → Type 0) → Model → Type 0) → Type 0
OfEveryPurgingRun Holds = (resolvers : ℕ) (publication : Publication) → IsValid resolvers publication → (says : Saying) (tallies : List ℕ) (slips : Slips) (events : List Event)
    → (let start : Faulty Model = faulty (empty_model publication tallies) slips in Holds (WasPurged publication says start events) (model_behind_events publication says start events).world)

-- The same of lists of actions, in any order.
pub record WasPurgedByActions (publication : Publication) (says : Saying) (f : Faulty Model) (actions : List Action) (key : Key) : Type 0 where
  pub before : List Action
  pub later : List Action
  pub parts : actions ≡ before ++ Forget ∷ later
  pub row : PublisherRow
  pub held : row_at (behind_actions publication says f before).world.world.publisher.rows key ≡ Some row
  pub old : is_old_tombstone publication (going_over (behind_actions publication says f before).world) (key, row) ≡ true
  pub gone : row_at (behind_actions publication says (behind_actions publication says f before) (Forget ∷ [])).world.world.publisher.rows key ≡ None

abbrev pub OfEveryPurgingActions : ((Key → Type 0) → Model → Type 0) → Type 0
OfEveryPurgingActions Holds = (resolvers : ℕ) (publication : Publication) → IsValid resolvers publication → (says : Saying) (tallies : List ℕ) (slips : Slips) (actions : List Action)
    → (let start : Faulty Model = faulty (empty_model publication tallies) slips in Holds (WasPurgedByActions publication says start actions) (behind_actions publication says start actions).world)

-- A row that the publisher lacks, and of which it accepted a change, was purged.
abbrev pub LackedWerePurged : (Key → Type 0) → Model → Type 0
LackedWerePurged Purged m = (key : Key) (dot : Dot) → row_at m.world.publisher.rows key ≡ None → is_made m.history.made key dot ≡ true → is_accepted m.history dot ≡ true → Purged key

-- So what a site knows of a row, but for own changes that are not accepted, the publisher knows, or the row was purged.
abbrev pub KnownIsWithin : (Key → Type 0) → Model → Type 0
KnownIsWithin Purged m = (site : ℕ) (key : Key) (dot : Dot) → has (past_at m.history site key).known dot ≡ true → (dot.site.0 ≡ site → is_accepted m.history dot ≡ true) → (has (past_at m.history 0 key).known dot ≡ true) ⊎ Purged key

-- The history has just those rows as purged that a purge took.
abbrev pub PurgedWereTaken : (Key → Type 0) → Model → Type 0
PurgedWereTaken Purged m = (key : Key) → (has_key m.history.purged key ≡ true) ↔ Purged key
