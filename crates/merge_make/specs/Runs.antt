-- A run over the generated script, and what is told of it.
use Rattle.std.specs.Prelude.{List, cond, ℕ, ◌++◌, ◌+◌, ◌≡◌, ◌⊎◌}
use Rattle.merge_model.specs.declared.answer.Answer.{Answer}
use Rattle.merge_model.specs.declared.event.Event.{Event}
use Rattle.merge_world.specs.Happenings.{Happened}
use Rattle.merge_world.specs.Playing.{AllHappened}
use Rattle.merge_world.specs.Views.{HandedView, SitesView}
use Rattle.merge_make.specs.Script.{script}
use Rattle.merge_make.specs.Steps.{event_of}
use Rattle.merge_make.specs.Summary.{answer_text, is_refusal, shown_in_summary, summary_of}
use Rattle.merge_make.specs.declared.step.Step.{Step}
use Rattle.merge_make.specs.declared.tally.Tally.{Tally}

-- The event of a step happened, and its answer was added to what is told.
pub record StepDone (step : Step) (old new : SitesView) (before after : HandedView) (was now : Tally) : Type 0 where
  pub answer : Answer
  pub happened : Happened (event_of step) old new before after answer
  pub refusals : now.refusals ≡ was.refusals + cond (is_refusal (answer_text answer)) 1 0
  pub reports : now.reports ≡ was.reports ++ shown_in_summary (event_of step) (answer_text answer)

-- Nothing happened, or the event of a step did.
abbrev pub StepInPart : Step → (old new : SitesView) → (before after : HandedView) → Type 0
StepInPart step old new before after = ((new ≡ old) × (after ≡ before)) ⊎ ((answer : Answer) × Happened (event_of step) old new before after answer)

-- Some of the first events of the script for so many customers happened, and nothing else did.
pub record MadeInPart (customers : ℕ) (old new : SitesView) (before after : HandedView) : Type 0 where
  pub events : List Event
  pub more : List Event
  pub split : script customers ≡ events ++ more
  pub answers : List Answer
  pub happened : AllHappened events old new before after answers

-- All events of the script for so many customers happened, and the text is the summary of their answers.
pub record Summed (customers : ℕ) (old new : SitesView) (before after : HandedView) (text : List ℕ) : Type 0 where
  pub answers : List Answer
  pub happened : AllHappened (script customers) old new before after answers
  pub told : text ≡ summary_of customers answers
