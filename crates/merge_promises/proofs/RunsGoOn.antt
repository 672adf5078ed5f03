-- A run goes on: behind a list of actions, with whatever slips come then, is the model of one list of actions from nothing.
use Rattle.std.specs.Prelude.{Bool, List, None, Some, [], false, refl, true, ℕ, ◌++◌, ◌∷◌, ◌≡◌}
use Rattle.std.proofs.Common.{ap, subst, sym, ◌∙◌}
use Rattle.std.proofs.lemmas.List.{append_assoc}
use Rattle.merge_schema.specs.declared.publication.Publication.{Publication}
use Rattle.merge_model.specs.Failing.{Faulty, Slip, Slips, acting_with, fails, faulty, faulty_stepping, is_allowed, slip_if}
use Rattle.merge_model.specs.Failing.Runs.{after_actions, model_after_actions, model_behind_actions}
use Rattle.merge_model.specs.History.Model.{Model, empty_model, model}
use Rattle.merge_model.specs.World.Session.{Stepping}
use Rattle.merge_model.specs.World.Steps.{Action, CloseAt, Deliver, Forget, Look, Make, MakeAnew, Pass, Send}
use Rattle.merge_model.specs.World.{Saying}
use Rattle.merge_model.specs.declared.outcome.Outcome.{Outcome}
use Rattle.merge_laws.specs.Laws.{OfEveryValidActions}

-- The slips that a step uses up, one where it can fail, and those that are left.

abbrev used_one : Slips → Slips
used_one [] = None ∷ []
used_one (slip ∷ slips) = slip ∷ []

abbrev left_one : Slips → Slips
left_one [] = []
left_one (slip ∷ slips) = slips

abbrev used_by : Action → Slips → Slips
used_by (Pass seconds) slips = []
used_by action slips = used_one slips

abbrev left_by : Action → Slips → Slips
left_by (Pass seconds) slips = slips
left_by action slips = left_one slips

abbrev used_all : List Action → Slips → Slips
used_all [] slips = []
used_all (action ∷ actions) slips = used_by action slips ++ used_all actions (left_by action slips)

after-more : {W : Type 0} (steps : Stepping W) (before during : List Action) (w : W) → after_actions steps w (before ++ during) ≡ after_actions steps (after_actions steps w before) during
after-more steps [] during w = refl
after-more steps (action ∷ before) during w = after-more steps before during (steps.act w action).0

module _ {W : Type 0} (publication : Publication) (stepping : Stepping W) where
  slip-with : (allowed : Bool) (slips rest : Slips) (slip : Slip) (action : Action) (w : W) (done : W × Outcome)
      → (slip_if publication stepping allowed rest slip action w done).0 ≡ faulty (slip_if publication stepping allowed slips slip action w done).0.world rest
  slip-with true slips rest slip action w done = refl
  slip-with false slips rest slip action w done = refl

  one-with : (slips rest : Slips) (action : Action) (w : W) (done : W × Outcome)
      → (acting_with publication stepping (used_one slips ++ rest) action w done).0 ≡ faulty (acting_with publication stepping slips action w done).0.world rest
  one-with [] rest action w done = refl
  one-with (None ∷ slips) rest action w done = refl
  one-with (Some slip ∷ slips) rest action w done = slip-with (is_allowed publication (stepping.look w) action slip done.1) slips rest slip action w done

  slip-left : (allowed : Bool) (slips : Slips) (slip : Slip) (action : Action) (w : W) (done : W × Outcome) → (slip_if publication stepping allowed slips slip action w done).0.slips ≡ slips
  slip-left true slips slip action w done = refl
  slip-left false slips slip action w done = refl

  one-left : (slips : Slips) (action : Action) (w : W) (done : W × Outcome) → (acting_with publication stepping slips action w done).0.slips ≡ left_one slips
  one-left [] action w done = refl
  one-left (None ∷ slips) action w done = refl
  one-left (Some slip ∷ slips) action w done = slip-left (is_allowed publication (stepping.look w) action slip done.1) slips slip action w done

  act-with : (action : Action) (w : W) (slips rest : Slips) → (fails publication stepping (faulty w (used_by action slips ++ rest)) action).0 ≡ faulty (fails publication stepping (faulty w slips) action).0.world rest
  act-with (Pass seconds) w slips rest = refl
  act-with (Make site change) w slips rest = one-with slips rest (Make site change) w (stepping.act w (Make site change))
  act-with (CloseAt site) w slips rest = one-with slips rest (CloseAt site) w (stepping.act w (CloseAt site))
  act-with (Send site sending) w slips rest = one-with slips rest (Send site sending) w (stepping.act w (Send site sending))
  act-with (Deliver number) w slips rest = one-with slips rest (Deliver number) w (stepping.act w (Deliver number))
  act-with (MakeAnew site) w slips rest = one-with slips rest (MakeAnew site) w (stepping.act w (MakeAnew site))
  act-with Forget w slips rest = one-with slips rest Forget w (stepping.act w Forget)
  act-with Look w slips rest = one-with slips rest Look w (stepping.act w Look)

  act-left : (action : Action) (w : W) (slips : Slips) → (fails publication stepping (faulty w slips) action).0.slips ≡ left_by action slips
  act-left (Pass seconds) w slips = refl
  act-left (Make site change) w slips = one-left slips (Make site change) w (stepping.act w (Make site change))
  act-left (CloseAt site) w slips = one-left slips (CloseAt site) w (stepping.act w (CloseAt site))
  act-left (Send site sending) w slips = one-left slips (Send site sending) w (stepping.act w (Send site sending))
  act-left (Deliver number) w slips = one-left slips (Deliver number) w (stepping.act w (Deliver number))
  act-left (MakeAnew site) w slips = one-left slips (MakeAnew site) w (stepping.act w (MakeAnew site))
  act-left Forget w slips = one-left slips Forget w (stepping.act w Forget)
  act-left Look w slips = one-left slips Look w (stepping.act w Look)

  abbrev run : Faulty W → List Action → Faulty W
  run f actions = after_actions (faulty_stepping publication stepping) f actions

  all-with : (actions : List Action) (w : W) (slips rest : Slips) → run (faulty w (used_all actions slips ++ rest)) actions ≡ faulty (run (faulty w slips) actions).world rest
  all-with [] w slips rest = refl
  all-with (action ∷ actions) w slips rest =
      let after : Faulty W = (fails publication stepping (faulty w slips) action).0 in
      let next : Slips = left_by action slips in
      let more : Slips = used_all actions next in
      let left : after ≡ faulty after.world next = ap (λ (others : Slips). faulty after.world others) (act-left action w slips) in
      ap (λ (others : Slips). run (faulty w others) (action ∷ actions)) (append_assoc (used_by action slips) more rest)
      ∙ ap (λ (f : Faulty W). run f actions) (act-with action w slips (more ++ rest))
      ∙ all-with actions after.world next rest
      ∙ ap (λ (f : Faulty W). faulty (run f actions).world rest) (sym left)

goes-on : (publication : Publication) (says : Saying) (tallies : List ℕ) (slips others : Slips) (actions more : List Action)
    → model_behind_actions publication says tallies (used_all actions slips ++ others) (actions ++ more) ≡ model_after_actions publication says (model_behind_actions publication says tallies slips actions) others more
goes-on publication says tallies slips others actions more =
    let steps : Stepping (Faulty Model) = faulty_stepping publication (model publication says) in
    let start : Model = empty_model publication tallies in
    ap (λ (f : Faulty Model). f.world) (after-more steps actions more (faulty start (used_all actions slips ++ others)))
    ∙ ap (λ (f : Faulty Model). (after_actions steps f more).world) (all-with publication (model publication says) actions start slips others)

-- What holds behind every list of actions holds behind more.
pub holds-later : (Holds : Publication → Saying → Model → Type 0) → OfEveryValidActions Holds → OfEveryValidActions (λ (publication : Publication) (says : Saying) (m : Model). (others : Slips) (more : List Action) → Holds publication says (model_after_actions publication says m others more))
holds-later Holds law resolvers publication valid says tallies slips actions others more =
    subst (λ (m : Model). Holds publication says m) (goes-on publication says tallies slips others actions more) (law resolvers publication valid says tallies (used_all actions slips ++ others) (actions ++ more))
