-- What happens with some slips, whatever comes behind them.
use Rattle.std.specs.Prelude.{Bool, List, None, Option, Some, [], count_by, false, ℕ, ◌++◌, ◌+◌, ◌≡◌, ◌≤◌, ◌∷◌}
use Rattle.merge_schema.specs.declared.publication.Publication.{Publication}
use Rattle.merge_batch.specs.declared.refusal.Refusal.{Refusal}
use Rattle.merge_types.specs.declared.identifiers.SiteId.{SiteId}
use Rattle.merge_model.specs.declared.answer.Answer.{Answer}
use Rattle.merge_model.specs.World.Events.{after, answers, happens, machine}
use Rattle.merge_model.specs.Failing.{Faulty, Slip, Slips, faulty, faulty_stepping}
use Rattle.merge_model.specs.World.Session.{Session, Stepping, ask, uploads_up_to}
use Rattle.merge_model.specs.World.Steps.{Action, Sending}
use Rattle.merge_model.specs.World.{Saying, World}
use Rattle.merge_model.specs.declared.event.Event.{Event}
use Rattle.merge_model.specs.declared.outcome.Outcome.{Outcome}

abbrev pub is_store_fault : Option Slip → Bool
is_store_fault None = false
is_store_fault (Some slip) = slip.is_fault

-- nothing fails
abbrev pub AreNone : Slips → Type 0
AreNone [] = Unit {0}
AreNone (None ∷ slips) = AreNone slips
AreNone (Some slip ∷ slips) = ⊥

-- From a, with some slips, comes b: they are used up, and what lies behind them is not touched.
-- The faults of the store among them are counted: the count was `before`, and is at most `after`.
pub record Reaches {A : Type 0} (a b : Slips → A) (before after : ℕ) : Type 0 where
  pub slips : Slips
  pub goes : (rest : Slips) → a (slips ++ rest) ≡ b rest
  pub few : before + count_by is_store_fault slips ≤ after

module _ (publication : Publication) (says : Saying) where
  abbrev pub stepping : Stepping (Faulty World)
  stepping = faulty_stepping publication (machine publication says)

  abbrev pub with_outcome : World → Outcome → Slips → Faulty World × Outcome
  with_outcome w outcome slips = (faulty w slips, outcome)

  -- One action was made, or failed. These words stay shut where they are cited, since what is in them is large.
  unfoldable pub Acts : Action → World → World → Outcome → ℕ → ℕ → Type 0
  Acts action w v outcome before after = Reaches (λ slips. stepping.act (faulty w slips) action) (with_outcome v outcome) before after

  -- a message of the site comes to the publisher
  unfoldable pub Asks : SiteId → Sending → World → World → Outcome → ℕ → ℕ → Type 0
  Asks site sending w v outcome before after = Reaches (λ slips. ask stepping site sending (faulty w slips)) (with_outcome v outcome) before after

  -- a session that stands here
  abbrev pub at : World → ℕ → ℕ → Option Refusal → Slips → Session (Faulty World)
  at w uploads downloads stop slips = record { world = faulty w slips; uploads = uploads; downloads = downloads; stop = stop }

  -- uploads, from none
  unfoldable pub Uploads : SiteId → ℕ → World → World → ℕ → Option Refusal → ℕ → ℕ → Type 0
  Uploads site n w v uploads stop before after = Reaches (λ slips. uploads_up_to stepping site n (at w 0 0 None slips)) (at v uploads 0 stop) before after

  -- an event happens
  abbrev pub Happens : World → Event → World → Answer → ℕ → ℕ → Type 0
  Happens w e v answer before after = Reaches (λ slips. happens publication stepping (faulty w slips) e) (λ slips. (faulty v slips, answer)) before after

  -- a list of events: the answers, and the world behind them
  abbrev pub run : Faulty World → List Event → List Answer × Faulty World
  run f events = (answers publication stepping f events, after publication stepping f events)
