-- What becomes of a mapping that the publisher keeps of a row and a site: a purge takes it, a join of its site does, its row comes back
-- into the partition, or its row moves on.
use Rattle.std.specs.List.{AllByRecursion, list_any}
use Rattle.std.specs.Prelude.{Bool, List, None, Option, Some, [], false, not, true, ◌++◌, ◌≡◌, ◌⊎◌, ◌∷◌, ℕ}
use Rattle.merge_types.specs.declared.identifiers.SiteId.{SiteId}
use Rattle.merge_gens.specs.Moves.{is_left}
use Rattle.merge_gens.specs.declared.moves.Mapping.{Mapping}
use Rattle.merge_gens.specs.declared.moves.RowSite.{RowSite}
use Rattle.merge_schema.specs.Valid.{IsValid}
use Rattle.merge_schema.specs.declared.publication.Publication.{Publication}
use Rattle.merge_batch.specs.declared.request.Join.{Join}
use Rattle.merge_batch.specs.declared.request.Request.TheVariants as request
use Rattle.merge_model.specs.Judge.ByHistory.{line_site}
use Rattle.merge_model.specs.Failing.{Faulty, Slips, faulty}
use Rattle.merge_model.specs.History.{Line}
use Rattle.merge_model.specs.Tables.Keys.{at_row_site, has_key}
use Rattle.merge_model.specs.History.Model.{Model, empty_model}
use Rattle.merge_model.specs.Publisher.PublisherDownload.{inside_keys}
use Rattle.merge_model.specs.Publisher.PublisherJoin.{join_acts}
use Rattle.merge_model.specs.Publisher.PublisherPurge.{is_old_left}
use Rattle.merge_model.specs.World.Steps.{Action, Deliver, Forget}
use Rattle.merge_model.specs.Tables.{PublisherTables}
use Rattle.merge_model.specs.World.{Saying, letter_at}
use Rattle.merge_model.specs.declared.event.Event.{Event}
use Rattle.merge_model.specs.declared.event.Event.TheVariants as event
use Rattle.merge_model.specs.declared.letter.Message.TheVariants.{Asks}
use Rattle.merge_laws.specs.Laws.LastLines.{move_told}
use Rattle.merge_owed.specs.Forgotten.{going_over}
use Rattle.merge_laws.specs.Laws.Effects.{behind_actions}
use Rattle.merge_owed.specs.Purged.{model_behind_events}

-- the mapping that the publisher keeps of a row and a site
abbrev pub kept_at : PublisherTables → RowSite → Option Mapping
kept_at p place = at_row_site p.mappings place

-- whether the row is in the site's partition
abbrev pub is_inside : Publication → PublisherTables → RowSite → Bool
is_inside publication p place = has_key (inside_keys publication (record { 0 = place.site }) p) place.key

-- The ways that a mapping can go at a step, from a model to the publisher's tables behind it.

-- A purge takes it. It says that the row left, in a generation that closed longer ago than the retention and one day more.
pub record PurgeTakes (publication : Publication) (m : Model) (action : Action) (after : PublisherTables) (place : RowSite) (move : Mapping) : Type 0 where
  pub purge : action ≡ Forget
  pub old : is_old_left publication (going_over m) (place, move) ≡ true
  pub gone : kept_at after place ≡ None

-- A join takes it that is delivered, is of its site and acts. It says that the row left.
pub record JoinTakes (m : Model) (action : Action) (after : PublisherTables) (place : RowSite) (move : Mapping) : Type 0 where
  pub number : ℕ
  pub from : SiteId
  pub join : Join
  pub delivered : action ≡ Deliver number
  pub sent : letter_at m.world number ≡ Some (record { site = from; message = Asks (request.Join join) })
  pub acts : join_acts join m.world.publisher ≡ true
  pub own : join.site.0 ≡ place.site
  pub left : is_left move.kind ≡ true
  pub gone : kept_at after place ≡ None

-- Its row comes back: it says that the row left, the row was outside the site's partition, and is inside.
pub record ComesBack (publication : Publication) (m : Model) (after : PublisherTables) (place : RowSite) (move : Mapping) : Type 0 where
  pub left : is_left move.kind ≡ true
  pub outside : is_inside publication m.world.publisher place ≡ false
  pub inside : is_inside publication after place ≡ true
  pub gone : kept_at after place ≡ None

-- Its row moves on: another move is told now, by which the row left and is outside, or came in and is inside.
pub record MovesOn (publication : Publication) (after : PublisherTables) (place : RowSite) (move : Mapping) : Type 0 where
  pub other : Mapping
  pub told : kept_at after place ≡ Some other
  pub differs : other ≡ move → ⊥
  pub now : is_inside publication after place ≡ not (is_left other.kind)

abbrev pub Goes : Publication → Model → Action → PublisherTables → RowSite → Mapping → Type 0
Goes publication m action after place move = PurgeTakes publication m action after place move ⊎ (JoinTakes m action after place move ⊎ (ComesBack publication m after place move ⊎ MovesOn publication after place move))

-- One of the actions came as the mapping was kept, and it went so.
pub record WentByActions (publication : Publication) (says : Saying) (f : Faulty Model) (actions : List Action) (place : RowSite) (move : Mapping) : Type 0 where
  pub before : List Action
  pub action : Action
  pub later : List Action
  pub parts : actions ≡ before ++ action ∷ later
  pub held : kept_at (behind_actions publication says f before).world.world.publisher place ≡ Some move
  pub goes : Goes publication (behind_actions publication says f before).world action (behind_actions publication says (behind_actions publication says f before) (action ∷ [])).world.world.publisher place move

-- The same of events: one of them is some steps, a purge if one of these is, and by one of these steps the mapping went.
abbrev pub is_forget : Action → Bool
is_forget Forget = true
is_forget action = false

pub record Went (publication : Publication) (says : Saying) (f : Faulty Model) (events : List Event) (place : RowSite) (move : Mapping) : Type 0 where
  pub before : List Event
  pub one : Event
  pub later : List Event
  pub parts : events ≡ before ++ one ∷ later
  pub steps : List Action
  pub are : behind_actions publication says (model_behind_events publication says f before) steps ≡ model_behind_events publication says (model_behind_events publication says f before) (one ∷ [])
  pub purge : list_any is_forget steps ≡ true → one ≡ event.Purge
  pub went : WentByActions publication says (model_behind_events publication says f before) steps place move

-- A mapping that is kept stays so, whatever comes afterwards, or it went by something that came.
abbrev pub KeptOrWentByActions : Publication → Saying → Model → Type 0
KeptOrWentByActions publication says m = (slips : Slips) (actions : List Action) (place : RowSite) (move : Mapping) → kept_at m.world.publisher place ≡ Some move
    → (kept_at (behind_actions publication says (faulty m slips) actions).world.world.publisher place ≡ Some move) ⊎ WentByActions publication says (faulty m slips) actions place move

abbrev pub KeptOrWent : Publication → Saying → Model → Type 0
KeptOrWent publication says m = (slips : Slips) (events : List Event) (place : RowSite) (move : Mapping) → kept_at m.world.publisher place ≡ Some move
    → (kept_at (model_behind_events publication says (faulty m slips) events).world.world.publisher place ≡ Some move) ⊎ Went publication says (faulty m slips) events place move

-- Of a valid publication, with the model behind a run, and whether a mapping went by something in the run.
abbrev pub OfEveryGoingRun : ((RowSite → Mapping → Type 0) → Model → Type 0) → Type 0
OfEveryGoingRun Holds = (resolvers : ℕ) (publication : Publication) → IsValid resolvers publication → (says : Saying) (tallies : List ℕ) (slips : Slips) (events : List Event)
    → (let start : Faulty Model = faulty (empty_model publication tallies) slips in Holds (Went publication says start events) (model_behind_events publication says start events).world)

abbrev pub OfEveryGoingActions : ((RowSite → Mapping → Type 0) → Model → Type 0) → Type 0
OfEveryGoingActions Holds = (resolvers : ℕ) (publication : Publication) → IsValid resolvers publication → (says : Saying) (tallies : List ℕ) (slips : Slips) (actions : List Action)
    → (let start : Faulty Model = faulty (empty_model publication tallies) slips in Holds (WentByActions publication says start actions) (behind_actions publication says start actions).world)

-- Each move that a line of the history tells is kept as a mapping, or it went so.
abbrev pub IsKeptOrGone : (RowSite → Mapping → Type 0) → Model → Line → Type 0
IsKeptOrGone Gone m line = (site : ℕ) (move : Mapping) → line_site line ≡ Some site → move_told (Some line) ≡ Some move
    → (let place : RowSite = record { key = line.key; site = site } in (kept_at m.world.publisher place ≡ Some move) ⊎ Gone place move)

abbrev pub ToldAreKeptOrGone : (RowSite → Mapping → Type 0) → Model → Type 0
ToldAreKeptOrGone Gone m = AllByRecursion (IsKeptOrGone Gone m) m.history.lines
