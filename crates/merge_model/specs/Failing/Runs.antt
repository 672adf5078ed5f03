-- Runs: lists of events, or of single actions in any order, from nothing, in which steps may fail.
use Rattle.std.specs.Prelude.{List, [], ℕ, ◌∷◌}
use Rattle.merge_schema.specs.declared.publication.Publication.{Publication}
use Rattle.merge_model.specs.declared.answer.Answer.{Answer}
use Rattle.merge_model.specs.World.Events.{after, answers, machine}
use Rattle.merge_model.specs.Failing.{Slips, faulty, faulty_stepping}
use Rattle.merge_model.specs.History.Model.{Model, empty_model, model}
use Rattle.merge_model.specs.World.Session.{Stepping}
use Rattle.merge_model.specs.World.Steps.{Action}
use Rattle.merge_model.specs.World.{Saying, World, empty_world}
use Rattle.merge_model.specs.declared.event.Event.{Event}
use Rattle.merge_model.specs.declared.outcome.Outcome.{Outcome}

-- the world of tables behind a run, and what was answered
abbrev pub world_behind : Publication → Saying → List ℕ → Slips → List Event → World
world_behind publication says tallies slips events = (after publication (faulty_stepping publication (machine publication says)) (faulty (empty_world publication tallies) slips) events).world

abbrev pub machine_says : Publication → Saying → List ℕ → Slips → List Event → List Answer
machine_says publication says tallies slips events = answers publication (faulty_stepping publication (machine publication says)) (faulty (empty_world publication tallies) slips) events

-- the model behind events that follow another, the model behind a run, and what it answered
abbrev pub model_after : Publication → Saying → Model → Slips → List Event → Model
model_after publication says m slips events = (after publication (faulty_stepping publication (model publication says)) (faulty m slips) events).world

abbrev pub model_behind : Publication → Saying → List ℕ → Slips → List Event → Model
model_behind publication says tallies slips events = model_after publication says (empty_model publication tallies) slips events

abbrev pub model_says : Publication → Saying → List ℕ → Slips → List Event → List Answer
model_says publication says tallies slips events = answers publication (faulty_stepping publication (model publication says)) (faulty (empty_model publication tallies) slips) events

-- Actions one after the other, of whatever world takes them: what came of each, and the world behind them.
module _ {W : Type 0} (stepping : Stepping W) where
  abbrev pub outcomes : W → List Action → List Outcome
  outcomes w [] = []
  outcomes w (action ∷ actions) = let done = stepping.act w action in done.1 ∷ outcomes done.0 actions

  abbrev pub after_actions : W → List Action → W
  after_actions w [] = w
  after_actions w (action ∷ actions) = after_actions (stepping.act w action).0 actions

-- The same of the machine and of the model, of which some steps may fail.

abbrev pub world_behind_actions : Publication → Saying → List ℕ → Slips → List Action → World
world_behind_actions publication says tallies slips actions = (after_actions (faulty_stepping publication (machine publication says)) (faulty (empty_world publication tallies) slips) actions).world

abbrev pub machine_does : Publication → Saying → List ℕ → Slips → List Action → List Outcome
machine_does publication says tallies slips actions = outcomes (faulty_stepping publication (machine publication says)) (faulty (empty_world publication tallies) slips) actions

abbrev pub model_after_actions : Publication → Saying → Model → Slips → List Action → Model
model_after_actions publication says m slips actions = (after_actions (faulty_stepping publication (model publication says)) (faulty m slips) actions).world

abbrev pub model_behind_actions : Publication → Saying → List ℕ → Slips → List Action → Model
model_behind_actions publication says tallies slips actions = model_after_actions publication says (empty_model publication tallies) slips actions

abbrev pub model_does : Publication → Saying → List ℕ → Slips → List Action → List Outcome
model_does publication says tallies slips actions = outcomes (faulty_stepping publication (model publication says)) (faulty (empty_model publication tallies) slips) actions
