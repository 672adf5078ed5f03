-- How a mapping goes behind lists of actions and of events.
use Rattle.std.specs.List.{list_any}
use Rattle.std.specs.Prelude.{Bool, List, None, Option, Some, [], false, refl, true, ◌++◌, ◌||◌, ◌≡◌, ◌⊎◌, ◌∷◌, ℕ}
use Rattle.std.proofs.Common.{ap, arith, inl, inr, subst, sym, ◌∙◌}
use Rattle.std.proofs.lemmas.List.Folds.{list_any-append}
use Rattle.merge_gens.specs.declared.moves.Mapping.{Mapping}
use Rattle.merge_gens.specs.declared.moves.RowSite.{RowSite}
use Rattle.merge_schema.specs.declared.publication.Publication.{Publication}
use Rattle.merge_model.specs.Judge.ByHistory.{by_history}
use Rattle.merge_model.specs.Failing.{Faulty, Slip, Slips, faulty, faulty_stepping, is_allowed, slip_if}
use Rattle.merge_model.specs.History.Model.{Model, empty_model, model, model_step}
use Rattle.merge_model.specs.Failing.Runs.{model_behind, model_behind_actions}
use Rattle.merge_model.specs.World.Session.{Stepping}
use Rattle.merge_model.specs.World.Steps.{Action, CloseAt, Deliver, Forget, Look, Make, MakeAnew, Pass, Send}
use Rattle.merge_model.specs.World.{Saying}
use Rattle.merge_model.specs.declared.event.Event.{Event}
use Rattle.merge_model.specs.declared.event.Event.TheVariants as event
use Rattle.merge_model.specs.declared.outcome.Outcome.TheVariants.{Passed}
use Rattle.merge_model.proofs.Runs.Actions.{events-are-actions, failing-actions-keep}
use Rattle.merge_model.proofs.Runs.Events.{event-keeps}
use Rattle.merge_model.proofs.Failing.KeptFailing.{fails-keep, runs-keep}
use Rattle.merge_model.proofs.Runs.{publisher_stays_sorted}
use Rattle.merge_model.proofs.Publishers.Sorted.{step-sorted}
use Rattle.merge_model.proofs.Entries.StepParts.{CanBeSaid}
use Rattle.merge_laws.proofs.LastLines.LastLineSteps.{Fits, LinesBase, last_lines-by-actions, last_lines-keep}
use Rattle.merge_laws.specs.Laws.{OfEveryValidActions, OfEveryValidRun}
use Rattle.merge_laws.proofs.Received.Models.{model-fine, received-always}
use Rattle.merge_laws.proofs.Runs.OfActions.{of-events}
use Rattle.merge_laws.proofs.Runs.Tallied.{received-tallied}
use Rattle.merge_laws.proofs.Walking.{step-keeps}
use Rattle.merge_owed.specs.Mappings.{KeptOrWent, KeptOrWentByActions, Went, WentByActions, is_forget, kept_at}
use Rattle.merge_laws.specs.Laws.Effects.{behind_actions}
use Rattle.merge_owed.specs.Purged.{model_behind_events}
use Rattle.merge_owed.proofs.MappingSteps.{fails-end, Ends}
use Rattle.merge_owed.proofs.PurgeEvents.{IsOther, other-same, without_purges}

-- What the last lines say, with what keeps it.

abbrev pub Based : Publication → Model → Type 0
Based publication m = LinesBase m.world m.history × Fits publication m.world.publisher m.history.lines

module _ (publication : Publication) (says : Saying) where
  abbrev pub stepping : Stepping (Faulty Model)
  stepping = faulty_stepping publication (model publication says)

  abbrev pub steps_without : Stepping (Faulty Model)
  steps_without = faulty_stepping publication (without_purges (model publication says))

  pub based-step : (m : Model) (action : Action) → Based publication m → Based publication (model_step publication says m action).0
  based-step m action both = (
    (model-fine publication says m action both.0.0, step-sorted publication says (by_history m.history) m.world action both.0.1),
    step-keeps publication says LinesBase (λ w h. Fits publication w.publisher h.lines) (λ w h b. b.0) (last_lines-keep publication says) m action both.0 both.1,
  )

  pub based-tallied : (m : Model) (others : List ℕ) → Based publication m → Based publication (record m { world = record m.world { tallies = others } })
  based-tallied m others both = ((received-tallied m.world others m.history both.0.0, both.0.1), both.1)

  pub based-fails : (f : Faulty Model) (action : Action) → Based publication f.world → Based publication (stepping.act f action).0.world
  based-fails f action based = fails-keep publication (model publication says) (Based publication) based-step based-tallied f action based

  pub based-begins : (tallies : List ℕ) → Based publication (empty_model publication tallies)
  based-begins tallies = ((received-always publication says tallies [] [], publisher_stays_sorted publication says tallies [] []), last_lines-by-actions publication says tallies [] [])

  pub based-by-actions : (tallies : List ℕ) (slips : Slips) (actions : List Action) → Based publication (behind_actions publication says (faulty (empty_model publication tallies) slips) actions).world
  based-by-actions tallies slips actions = failing-actions-keep publication (model publication says) (Based publication) based-step based-tallied actions (faulty (empty_model publication tallies) slips) (based-begins tallies)

  -- Behind a list of actions.

  module _ (place : RowSite) (move : Mapping) where
    abbrev pub IsKept : Faulty Model → Type 0
    IsKept f = kept_at f.world.world.publisher place ≡ Some move

    pub later-went : (f : Faulty Model) (action : Action) (actions : List Action) → WentByActions publication says (stepping.act f action).0 actions place move → WentByActions publication says f (action ∷ actions) place move
    later-went f action actions went = record {
      before = action ∷ went.before;
      action = went.action;
      later = went.later;
      parts = ap (λ (rest : List Action). action ∷ rest) went.parts;
      held = went.held;
      goes = went.goes;
    }

    later-or : (f : Faulty Model) (action : Action) (actions : List Action) → (let g : Faulty Model = (stepping.act f action).0 in
        (IsKept (behind_actions publication says g actions)) ⊎ WentByActions publication says g actions place move → (IsKept (behind_actions publication says g actions)) ⊎ WentByActions publication says f (action ∷ actions) place move)
    later-or f action actions (inl is) = inl is
    later-or f action actions (inr went) = inr (later-went f action actions went)

    abbrev pub KeptOr : Faulty Model → List Action → Type 0
    KeptOr f actions = IsKept (behind_actions publication says f actions) ⊎ WentByActions publication says f actions place move

    module _ (valid : CanBeSaid publication) where
      first-or : (f : Faulty Model) (action : Action) (actions : List Action) (based : Based publication f.world) (held : IsKept f)
          → (let g : Faulty Model = (stepping.act f action).0 in (IsKept g → KeptOr g actions) → Ends publication valid says f.world place move held based.0.1 based.1.moves action g.world.world.publisher → KeptOr f (action ∷ actions))
      first-or f action actions based held rest (inl is) = later-or f action actions (rest is)
      first-or f action actions based held rest (inr goes) = inr (record {
        before = [];
        action = action;
        later = actions;
        parts = refl;
        held = held;
        goes = goes;
      })

      pub kept-or-went : (actions : List Action) (f : Faulty Model) → Based publication f.world → IsKept f → KeptOr f actions
      kept-or-went [] f based held = inl held
      kept-or-went (action ∷ actions) f based held =
          first-or f action actions based held (λ is. kept-or-went actions (stepping.act f action).0 (based-fails f action based) is)
          (fails-end publication valid says f.world place move held based.0.1 based.1.moves f.slips action)

-- An event is some steps, of which none is a purge unless it is one.

pub record Parted (publication : Publication) (says : Saying) (f : Faulty Model) (e : Event) : Type 0 where
  pub steps : List Action
  pub are : behind_actions publication says f steps ≡ model_behind_events publication says f (e ∷ [])
  pub purge : list_any is_forget steps ≡ true → e ≡ event.Purge

-- steps without a purge, up to a world
record Without (publication : Publication) (says : Saying) (f g : Faulty Model) : Type 0 where
  pub steps : List Action
  pub are : behind_actions publication says f steps ≡ g
  pub none : list_any is_forget steps ≡ false

module _ (publication : Publication) (says : Saying) where
  -- where no purge is made, nothing is looked at in its place
  slip-looks : (allowed : Bool) (slips : Slips) (slip : Slip) (m : Model) → (slip_if publication (without_purges (model publication says)) allowed slips slip Forget m (m, Passed)).0 ≡ (slip_if publication (model publication says) allowed slips slip Look m (model_step publication says m Look)).0
  slip-looks true slips slip m = refl
  slip-looks false slips slip m = refl

  forget-looks : (slips : Slips) (m : Model) → ((steps_without publication says).act (faulty m slips) Forget).0 ≡ ((stepping publication says).act (faulty m slips) Look).0
  forget-looks [] m = refl
  forget-looks (None ∷ slips) m = refl
  forget-looks (Some slip ∷ slips) m = slip-looks (is_allowed publication m.world Look slip Passed) slips slip m

  one-more : (steps : List Action) (action : Action) (f : Faulty Model) → behind_actions publication says f (steps ++ action ∷ []) ≡ ((stepping publication says).act (behind_actions publication says f steps) action).0
  one-more [] action f = refl
  one-more (first ∷ steps) action f = one-more steps action ((stepping publication says).act f first).0

  and-one : (f g : Faulty Model) (action : Action) → is_forget action ≡ false → Without publication says f g → Without publication says f ((stepping publication says).act g action).0
  and-one f g action other made = record {
    steps = made.steps ++ action ∷ [];
    are = one-more made.steps action f ∙ ap (λ (v : Faulty Model). ((stepping publication says).act v action).0) made.are;
    none = list_any-append is_forget made.steps (action ∷ []) ∙ (let before = made.none in grind (arith, before, other));
  }

  next-without : (f g : Faulty Model) (action : Action) → Without publication says f g → Without publication says f ((steps_without publication says).act g action).0
  next-without f g (Pass seconds) made = and-one f g (Pass seconds) refl made
  next-without f g (Make site change) made = and-one f g (Make site change) refl made
  next-without f g (CloseAt site) made = and-one f g (CloseAt site) refl made
  next-without f g (Send site sending) made = and-one f g (Send site sending) refl made
  next-without f g (Deliver number) made = and-one f g (Deliver number) refl made
  next-without f g (MakeAnew site) made = and-one f g (MakeAnew site) refl made
  next-without f g Forget made = subst (λ (v : Faulty Model). Without publication says f v) (sym (forget-looks g.slips g.world)) (and-one f g Look refl made)
  next-without f g Look made = and-one f g Look refl made

  other-parted : (f : Faulty Model) (e : Event) → IsOther e → Parted publication says f e
  other-parted f e other =
      let made : Without publication says f (model_behind_events publication says f (e ∷ [])) = subst (λ (v : Faulty Model). Without publication says f v) (other-same publication says f e other)
      (event-keeps publication (steps_without publication says) (λ (v : Faulty Model). Without publication says f v) (λ v action so. next-without f v action so) f e (record { steps = []; are = refl; none = refl })) in
      record {
        steps = made.steps;
        are = made.are;
        purge = λ is. (let none = made.none in absurd (grind (arith, is, none)));
      }

  purge-parted : (f : Faulty Model) → Parted publication says f event.Purge
  purge-parted f = let made = events-are-actions (stepping publication says) publication (event.Purge ∷ []) f in record {
    steps = made.0;
    are = made.1;
    purge = λ is. refl;
  }

  pub parted : (f : Faulty Model) (e : Event) → Parted publication says f e
  parted f event.Purge = purge-parted f
  parted f e = other-parted f e tt

  -- Behind a list of events.

  pub based-event : (f : Faulty Model) (e : Event) → Based publication f.world → Based publication (model_behind_events publication says f (e ∷ [])).world
  based-event f e based = runs-keep publication (model publication says) (Based publication) (based-step publication says) (based-tallied publication says) (e ∷ []) f based

  module _ (place : RowSite) (move : Mapping) where
    abbrev KeptOrGone : Faulty Model → List Event → Type 0
    KeptOrGone f events = (kept_at (model_behind_events publication says f events).world.world.publisher place ≡ Some move) ⊎ Went publication says f events place move

    pub later-gone : (f : Faulty Model) (e : Event) (events : List Event) → Went publication says (model_behind_events publication says f (e ∷ [])) events place move → Went publication says f (e ∷ events) place move
    later-gone f e events went = record {
      before = e ∷ went.before;
      one = went.one;
      later = went.later;
      parts = ap (λ (rest : List Event). e ∷ rest) went.parts;
      steps = went.steps;
      are = went.are;
      purge = went.purge;
      went = went.went;
    }

    or-later : (f : Faulty Model) (e : Event) (events : List Event) → KeptOrGone (model_behind_events publication says f (e ∷ [])) events → KeptOrGone f (e ∷ events)
    or-later f e events (inl is) = inl is
    or-later f e events (inr went) = inr (later-gone f e events went)

    event-or : (f : Faulty Model) (e : Event) (events : List Event) (parted : Parted publication says f e) → (kept_at (model_behind_events publication says f (e ∷ [])).world.world.publisher place ≡ Some move → KeptOrGone (model_behind_events publication says f (e ∷ [])) events)
        → KeptOr publication says place move f parted.steps → KeptOrGone f (e ∷ events)
    event-or f e events parted rest (inl is) = or-later f e events (rest (ap (λ (v : Faulty Model). kept_at v.world.world.publisher place) (sym parted.are) ∙ is))
    event-or f e events parted rest (inr went) = inr (record {
      before = [];
      one = e;
      later = events;
      parts = refl;
      steps = parted.steps;
      are = parted.are;
      purge = parted.purge;
      went = went;
    })

    pub kept-or-gone : CanBeSaid publication → (events : List Event) (f : Faulty Model) → Based publication f.world → kept_at f.world.world.publisher place ≡ Some move → KeptOrGone f events
    kept-or-gone valid [] f based held = inl held
    kept-or-gone valid (e ∷ events) f based held =
        let parts = parted f e in
        event-or f e events parts (λ is. kept-or-gone valid events (model_behind_events publication says f (e ∷ [])) (based-event f e based) is) (kept-or-went publication says place move valid parts.steps f based held)

-- The laws.

pub kept-or-went-always : OfEveryValidActions KeptOrWentByActions
kept-or-went-always resolvers publication valid says tallies slips actions more later place move held =
    kept-or-went publication says place move (resolvers, valid) later (faulty (model_behind_actions publication says tallies slips actions) more) (based-by-actions publication says tallies slips actions) held

pub kept-or-gone-always : OfEveryValidRun KeptOrWent
kept-or-gone-always resolvers publication valid says tallies slips events more later place move held =
    kept-or-gone publication says place move (resolvers, valid) later (faulty (model_behind publication says tallies slips events) more)
    (of-events publication says tallies slips events (Based publication) (based-by-actions publication says tallies slips)) held
