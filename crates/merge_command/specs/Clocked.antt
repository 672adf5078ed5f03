-- Events that happen each at a moment that a clock tells.
use Rattle.std.specs.Prelude.{List, IfSome, Option, [], option_map, true, ℕ, ◌≡◌, ◌∷◌}
use Rattle.merge_types.specs.declared.identifiers.Moment.{Moment}
use Rattle.merge_types.specs.declared.identifiers.SiteId.{SiteId}
use Rattle.merge_link.specs.Moments.{Moments, later_moments, next_moment}
use Rattle.merge_schema.specs.declared.publication.Publication.{Publication}
use Rattle.merge_model.specs.World.Events.{happens}
use Rattle.merge_model.specs.Failing.{Faulty, faulty}
use Rattle.merge_model.specs.Failing.Reach.{Reaches, stepping}
use Rattle.merge_model.specs.World.{Saying, World}
use Rattle.merge_model.specs.declared.answer.Answer.{Answer}
use Rattle.merge_model.specs.declared.event.Event.{Event}
use Rattle.merge_world.specs.Happenings.{Happened}
use Rattle.merge_world.specs.Views.{HandedView, SitesView, world_of}
use Rattle.merge_command.specs.Taken.{is_taken}

abbrev pub TimedEvent : Type 0
TimedEvent = Moment × Event

abbrev pub moment_of : TimedEvent → Moment
moment_of timed = timed.0

abbrev pub event_of : TimedEvent → Event
event_of timed = timed.1

-- a clock told these moments, one after the other, where it tells them
abbrev pub AreTold : List Moment → Option Moments → Option Moments → Type 0
AreTold [] old new = new ≡ old
AreTold (moment ∷ moments) old new = IfSome old (λ (m : Moments). moment ≡ next_moment m) × AreTold moments (option_map later_moments old) new

-- the world at another moment
abbrev pub at_moment : Moment → World → World
at_moment now w = record w { moment = now }

abbrev pub sites_at : Moment → SitesView → SitesView
sites_at now v = record v { moment = now }

module _ (publication : Publication) (says : Saying) where
  -- what an event does at its moment, and what is answered, where some steps may fail
  abbrev pub happens_at : Faulty World → TimedEvent → Faulty World × Answer
  happens_at f timed = happens publication (stepping publication says) (faulty (at_moment timed.0 f.world) f.slips) timed.1

  -- the same of a list of events: the answers, and the world behind them
  abbrev pub run_at : Faulty World → List TimedEvent → List Answer × Faulty World
  run_at f [] = ([], f)
  run_at f (timed ∷ rest) = let done = happens_at f timed in let ran = run_at done.0 rest in (done.1 ∷ ran.0, ran.1)

  -- a run over events, with some slips: what was answered, and the world behind it
  unfoldable pub RunsAt : List TimedEvent → World → World → List Answer → ℕ → ℕ → Type 0
  RunsAt timed w v said before after = Reaches (λ slips. run_at (faulty w slips) timed) (λ slips. (said, faulty v slips)) before after

-- an event happened at a moment, and no resolver was asked
abbrev pub HappenedAt : TimedEvent → SitesView → SitesView → Answer → Type 0
HappenedAt timed old new answer = (handed : HandedView) → Happened timed.1 (sites_at timed.0 old) new handed handed answer

-- nothing happened
pub record IsIdle (old new : SitesView) (began told : Option Moments) : Type 0 where
  pub sites : new ≡ old
  pub clock : told ≡ began

-- an event of the site happened at the next moment of a clock
pub record EventIsTaken (here : SiteId) (e : Event) (old new : SitesView) (began told : Option Moments) (answer : Answer) : Type 0 where
  pub own : is_taken here e ≡ true
  pub moment : Moment
  pub happened : HappenedAt (moment, e) old new answer
  pub clock : AreTold (moment ∷ []) began told

-- Events happened one after the other, each at its moment, and no resolver was asked.
pub record AllHappenedAt (timed : List TimedEvent) (old new : SitesView) (said : List Answer) : Type 0 where
  pub runs : (handed : HandedView) → RunsAt old.publication handed.says timed (world_of old handed.tallies) (world_of new handed.tallies) said old.faults new.faults
  pub publication : new.publication ≡ old.publication
  pub sites : new.sites ≡ old.sites
  pub publications : new.publications ≡ old.publications
