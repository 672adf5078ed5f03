-- Where each step is alike, so is each list of events: the machine's run is the model's run with the history left out.
use Rattle.std.specs.Prelude.{◌≡◌, ℕ, List, refl}
use Rattle.std.proofs.Common.{ap, subst, sym}
use Rattle.merge_schema.specs.declared.publication.Publication.{Publication}
use Rattle.merge_model.specs.Laws.Bridge.{StepsAlike}
use Rattle.merge_model.specs.World.Events.{after, answers, machine}
use Rattle.merge_model.specs.Failing.{Slips, faulty, faulty_stepping}
use Rattle.merge_model.specs.History.Model.{Model, model, model_step}
use Rattle.merge_model.specs.World.Steps.{Action, step}
use Rattle.merge_model.specs.World.{Saying, World}
use Rattle.merge_model.specs.declared.event.Event.{Event}
use Rattle.merge_model.specs.declared.outcome.Outcome.{Outcome}
use Rattle.merge_model.proofs.Runs.Alike.{Both, events-alike}
use Rattle.merge_model.proofs.Runs.Actions.{actions-alike}
use Rattle.merge_model.proofs.Failing.AlikeFailing.{Together, fails-alike, runs-alike as failing-runs}
use Rattle.merge_model.specs.Failing.Runs.{after_actions, outcomes}

module _ (publication : Publication) (says : Saying) (Kept : Model → Type 0) (keeps : (m : Model) (action : Action) → Kept m → Kept (model_step publication says m action).0) (acts : (m : Model) (action : Action) → Kept m → StepsAlike publication says m action) where
  -- the same but for the history
  abbrev pub Same : World → Model → Type 0
  Same w m = (w ≡ m.world) × Kept m

  pub act-alike : (w : World) (m : Model) (action : Action) → Same w m → Both Same (step publication says w action) (model_step publication says m action)
  act-alike w m action same = subst (λ (v : World). Both Same (step publication says v action) (model_step publication says m action)) (sym same.0)
      (let done = acts m action same.1 in (ap (λ (x : World × Outcome). x.1) done, (ap (λ (x : World × Outcome). x.0) done, keeps m action same.1)))

  runs-alike : (events : List Event) (m : Model) → Kept m → (answers publication (machine publication says) m.world events ≡ answers publication (model publication says) m events)
      × Same (after publication (machine publication says) m.world events) (after publication (model publication says) m events)
  runs-alike events m k = events-alike (machine publication says) (model publication says) Same act-alike (λ w n same. same.0) publication events m.world m (refl, k)

  pub answers-alike : (events : List Event) (m : Model) → Kept m → answers publication (machine publication says) m.world events ≡ answers publication (model publication says) m events
  answers-alike events m k = (runs-alike events m k).0

  pub after-alike : (events : List Event) (m : Model) → Kept m → after publication (machine publication says) m.world events ≡ (after publication (model publication says) m events).world
  after-alike events m k = (runs-alike events m k).1.0

  -- and the same steps fail
  module _ (stays : (m : Model) (others : List ℕ) → Kept m → Kept ((model publication says).retally others m)) where
    tally-alike : (w : World) (m : Model) (others : List ℕ) → Same w m → Same ((machine publication says).retally others w) ((model publication says).retally others m)
    tally-alike w m others same = (ap (λ (v : World). record v { tallies = others }) same.0, stays m others same.1)

    pub failing-alike : (slips : Slips) (events : List Event) (m : Model) → Kept m
        → (answers publication (faulty_stepping publication (machine publication says)) (faulty m.world slips) events ≡ answers publication (faulty_stepping publication (model publication says)) (faulty m slips) events)
        × ((after publication (faulty_stepping publication (machine publication says)) (faulty m.world slips) events).world ≡ (after publication (faulty_stepping publication (model publication says)) (faulty m slips) events).world.world)
    failing-alike slips events m k = (let run = failing-runs publication (machine publication says) (model publication says) Same act-alike (λ w n same. same.0) tally-alike slips events m.world m (refl, k) in (run.0, run.1.1.0))

    pub failing-actions-alike : (slips : Slips) (actions : List Action) (m : Model) → Kept m
        → (outcomes (faulty_stepping publication (machine publication says)) (faulty m.world slips) actions ≡ outcomes (faulty_stepping publication (model publication says)) (faulty m slips) actions)
        × ((after_actions (faulty_stepping publication (machine publication says)) (faulty m.world slips) actions).world ≡ (after_actions (faulty_stepping publication (model publication says)) (faulty m slips) actions).world.world)
    failing-actions-alike slips actions m k =
        let done = actions-alike (faulty_stepping publication (machine publication says)) (faulty_stepping publication (model publication says)) (Together publication (machine publication says) (model publication says) Same act-alike (λ w n same. same.0) tally-alike)
        (fails-alike publication (machine publication says) (model publication says) Same act-alike (λ w n same. same.0) tally-alike) actions (faulty m.world slips) (faulty m slips) (refl, (refl, k)) in
        (done.0, done.1.1.0)
