-- What holds of every list of actions holds of every list of events, which is one.
use Rattle.std.specs.Prelude.{ℕ, List}
use Rattle.std.proofs.Common.{subst}
use Rattle.merge_schema.specs.declared.publication.Publication.{Publication}
use Rattle.merge_model.specs.Failing.{Faulty, Slips, faulty, faulty_stepping}
use Rattle.merge_model.specs.History.Model.{Model, empty_model, model}
use Rattle.merge_model.specs.Failing.Runs.{model_after, model_after_actions, model_behind, model_behind_actions}
use Rattle.merge_model.specs.World.Steps.{Action}
use Rattle.merge_model.specs.World.{Saying}
use Rattle.merge_model.specs.declared.event.Event.{Event}
use Rattle.merge_model.proofs.Runs.Actions.{events-are-actions}
use Rattle.merge_laws.specs.Facts.Identities.{OfEveryRuledActions, OfEveryRuledModel}
use Rattle.merge_laws.specs.Laws.{OfEveryActions, OfEveryDecidedRun, OfEveryValidActions, OfEveryValidRun}

-- from any model on
pub of-later-events : (publication : Publication) (says : Saying) (m : Model) (slips : Slips) (events : List Event) (Holds : Model → Type 0) → ((actions : List Action) → Holds (model_after_actions publication says m slips actions)) → Holds (model_after publication says m slips events)
of-later-events publication says m slips events Holds holds =
    let made = events-are-actions (faulty_stepping publication (model publication says)) publication events (faulty m slips) in
    subst (λ (f : Faulty Model). Holds f.world) made.1 (holds made.0)

-- from nothing
pub of-events : (publication : Publication) (says : Saying) (tallies : List ℕ) (slips : Slips) (events : List Event) (Holds : Model → Type 0)
    → ((actions : List Action) → Holds (model_behind_actions publication says tallies slips actions)) → Holds (model_behind publication says tallies slips events)
of-events publication says tallies slips events Holds holds = of-later-events publication says (empty_model publication tallies) slips events Holds holds

-- The forms of laws.

pub of-runs : (Holds : Publication → Saying → Model → Type 0) → OfEveryActions Holds → OfEveryDecidedRun Holds
of-runs Holds law publication says tallies slips events = of-events publication says tallies slips events (Holds publication says) (law publication says tallies slips)

pub of-valid-runs : (Holds : Publication → Saying → Model → Type 0) → OfEveryValidActions Holds → OfEveryValidRun Holds
of-valid-runs Holds law resolvers publication valid says tallies slips events = of-events publication says tallies slips events (Holds publication says) (law resolvers publication valid says tallies slips)

pub of-ruled-runs : (Holds : Model → Type 0) → OfEveryRuledActions Holds → OfEveryRuledModel Holds
of-ruled-runs Holds law publication fit says tallies slips events = of-events publication says tallies slips events Holds (law publication fit says tallies slips)
