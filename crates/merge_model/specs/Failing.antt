-- Worlds in which steps may fail: a step is answered with a fault of the store or with want of memory, and all tables
-- stay as they were.
-- The room holds what such worlds reach, and runs.
pub mod Reach
pub mod Runs
use Rattle.std.specs.Prelude.{Bool, List, None, Option, Some, [], false, if◌then◌else◌, not, take, true, ℕ, ◌==◌, ◌||◌, ◌∷◌}
use Rattle.merge_resolve.specs.declared.case.ConflictCase.{ConflictCase}
use Rattle.merge_resolve.specs.Asked.{tallies_after}
use Rattle.merge_schema.specs.declared.publication.Publication.{Publication}
use Rattle.merge_batch.specs.declared.refusal.Refusal.{Refusal}
use Rattle.merge_model.specs.World.Calls.{closing_commits, questions_on, request_commits, taken_commits}
use Rattle.merge_model.specs.World.Session.{Stepping}
use Rattle.merge_model.specs.World.Steps.{Action, CloseAt, Deliver, Pass}
use Rattle.merge_model.specs.Tables.{SubscriberTables}
use Rattle.merge_model.specs.World.{World, letter_at, subscriber_at}
use Rattle.merge_model.specs.declared.letter.Letter.{Letter}
use Rattle.merge_model.specs.declared.letter.Message.TheVariants.{Asks, Replies}
use Rattle.merge_model.specs.declared.outcome.Outcome.{Outcome}
use Rattle.merge_model.specs.declared.outcome.Outcome.TheVariants.{Closes, Discards, Forgot, Made, Posted, Refuses, Took}
use Rattle.merge_batch.specs.declared.refusal.Refusal.TheVariants as refusal

-- A step fails, by a fault of the store or else for want of memory. Of the questions of an upload the first few were asked already.
pub record Slip : Type 0 where
  pub is_fault : Bool
  pub asked : ℕ

-- what is still to fail: for each step a slip, or none where it is made
abbrev pub Slips : Type 0
Slips = List (Option Slip)

abbrev pub slip_refusal : Slip → Refusal
slip_refusal slip = if slip.is_fault then refusal.StoreFault else refusal.NoMemory

pub record Faulty (W : Type 0) : Type 0 where
  pub world : W
  pub slips : Slips

abbrev pub faulty : {W : Type 0} → W → Slips → Faulty W
faulty w slips = record { world = w; slips = slips }

-- Whether a step commits at its site. A step that changes no record commits nothing.

abbrev pub closing_at_subscriber : World → Option SubscriberTables → ℕ → Bool
closing_at_subscriber w None generation = false
closing_at_subscriber w (Some s) generation = closing_commits w.moment s.latest s.gens generation

abbrev pub closing_at : World → Action → ℕ → Bool
closing_at w (CloseAt site) generation =
    if site.0 == 0 then closing_commits w.moment w.publisher.latest w.publisher.gens generation
    else closing_at_subscriber w (subscriber_at w site) generation
closing_at w action generation = false

abbrev pub posting_by : Publication → World → Option Letter → ℕ → Bool
posting_by publication w None number = false
posting_by publication w (Some letter) number = elim letter.message [
  | Asks m ↦ request_commits publication w.moment m w.publisher number
  | Replies m ↦ false
]

-- a message that a subscriber makes, or a reply that the publisher makes
abbrev pub posting_commits : Publication → World → Action → ℕ → Bool
posting_commits publication w (Deliver number) posted = posting_by publication w (letter_at w number) posted
posting_commits publication w action posted = true

abbrev pub commits : Publication → World → Action → Outcome → Bool
commits publication w action (Made row) = true
commits publication w action (Closes generation) = closing_at w action generation
commits publication w action (Posted number) = posting_commits publication w action number
commits publication w action (Took taken) = taken_commits taken
commits publication w action (Discards rows) = true
commits publication w action (Forgot forgotten) = true
commits publication w action outcome = false

-- memory may be wanting at each step, and a fault of the store comes where there is a commit
abbrev pub is_allowed : Publication → World → Action → Slip → Outcome → Bool
is_allowed publication w action slip outcome = not slip.is_fault || commits publication w action outcome

-- The questions of a step. One that is refused asks none.

abbrev pub is_made : Outcome → Bool
is_made (Refuses refusal) = false
is_made outcome = true

abbrev pub questions_in : Publication → World → Option Letter → List (ℕ × ConflictCase)
questions_in publication w None = []
questions_in publication w (Some letter) = elim letter.message [
  | Asks m ↦ questions_on publication w.moment m w.publisher
  | Replies m ↦ []
]

abbrev pub questions_by : Publication → World → Action → Outcome → List (ℕ × ConflictCase)
questions_by publication w (Deliver number) outcome = if is_made outcome then questions_in publication w (letter_at w number) else []
questions_by publication w action outcome = []

module _ {W : Type 0} (publication : Publication) (stepping : Stepping W) where
  -- a step that fails leaves all but tallies as it was
  abbrev pub outcome_of_slip : Slip → Action → W → Outcome → W × Outcome
  outcome_of_slip slip action w outcome = (
    stepping.retally (tallies_after (stepping.look w).tallies (take slip.asked (questions_by publication (stepping.look w) action outcome))) w,
    Refuses (slip_refusal slip),
  )

  abbrev pub made_with : Slips → W × Outcome → Faulty W × Outcome
  made_with slips done = (faulty done.0 slips, done.1)

  -- a slip that is not allowed where it comes is none: so each list of slips is one of allowed ones
  abbrev pub slip_if : Bool → Slips → Slip → Action → W → W × Outcome → Faulty W × Outcome
  slip_if true slips slip action w done = made_with slips (outcome_of_slip slip action w done.1)
  slip_if false slips slip action w done = made_with slips done

  abbrev pub acting_with : Slips → Action → W → W × Outcome → Faulty W × Outcome
  acting_with [] action w done = made_with [] done
  acting_with (None ∷ slips) action w done = made_with slips done
  acting_with (Some slip ∷ slips) action w done = slip_if (is_allowed publication (stepping.look w) action slip done.1) slips slip action w done

  -- the passing of time does not fail
  abbrev pub fails : Faulty W → Action → Faulty W × Outcome
  fails f (Pass seconds) = made_with f.slips (stepping.act f.world (Pass seconds))
  fails f action = acting_with f.slips action f.world (stepping.act f.world action)

  abbrev pub faulty_stepping : Stepping (Faulty W)
  faulty_stepping = record {
    act = fails;
    look = λ (f : Faulty W). stepping.look f.world;
    retally = λ (tallies : List ℕ) (f : Faulty W). record f { world = stepping.retally tallies f.world };
  }
