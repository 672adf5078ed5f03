-- What is purged behind a list of actions, one of them took: as PurgeEvents says it of events.
use Rattle.std.specs.Prelude.{Bool, List, None, Some, [], false, refl, true, ◌++◌, ◌≡◌, ◌⊎◌, ◌∷◌, ◌||◌}
use Rattle.std.proofs.Common.{ap, arith, inl, inr, sym, ◌∙◌}
use Rattle.merge_types.specs.declared.row_key.RowKey.{RowKey as Key}
use Rattle.merge_schema.specs.declared.publication.Publication.{Publication}
use Rattle.merge_model.specs.Judge.ByHistory.{by_history}
use Rattle.merge_model.specs.Failing.{Faulty, Slips, faulty, faulty_stepping, is_allowed}
use Rattle.merge_model.specs.Tables.Keys.{has_key, row_at}
use Rattle.merge_model.specs.Laws.{AreSorted}
use Rattle.merge_model.specs.History.Model.{Model, model, model_step}
use Rattle.merge_model.specs.World.Session.{Stepping}
use Rattle.merge_model.specs.World.Steps.{Action, CloseAt, Deliver, Forget, Look, Make, MakeAnew, Pass, Send}
use Rattle.merge_model.specs.World.{Saying}
use Rattle.merge_model.proofs.Runs.Actions.{failing-actions-keep}
use Rattle.merge_model.proofs.Failing.KeptFailing.{fails-keep}
use Rattle.merge_model.proofs.Publishers.Sorted.{step-sorted}
use Rattle.merge_laws.specs.Laws.Effects.{behind_actions}
use Rattle.merge_owed.specs.Purged.{WasPurgedByActions}
use Rattle.merge_owed.proofs.PurgeEvents.{IsLeft, IsMade, act-leaves, made-purged, old_in, purge-has, slip-either, step-has, without_purges}
use Rattle.merge_owed.proofs.PurgedRows.{Dropped, keys_old, was-dropped}

abbrev IsOther : Action → Type 0
IsOther Forget = ⊥
IsOther action = Unit {0}

module _ (publication : Publication) (says : Saying) where
  abbrev stepping : Stepping (Faulty Model)
  stepping = faulty_stepping publication (model publication says)

  abbrev steps_without : Stepping (Faulty Model)
  steps_without = faulty_stepping publication (without_purges (model publication says))

  abbrev behind_action : Stepping (Faulty Model) → Faulty Model → Action → Faulty Model
  behind_action steps f action = (steps.act f action).0

  other-same : (f : Faulty Model) (action : Action) → IsOther action → behind_action steps_without f action ≡ behind_action stepping f action
  other-same f (Pass seconds) other = refl
  other-same f (Make site change) other = refl
  other-same f (CloseAt site) other = refl
  other-same f (Send site sending) other = refl
  other-same f (Deliver number) other = refl
  other-same f (MakeAnew site) other = refl
  other-same f Forget other = absurd other
  other-same f Look other = refl

  without-leaves : (f : Faulty Model) (action : Action) → (behind_action steps_without f action).world.history.purged ≡ f.world.history.purged
  without-leaves f action = fails-keep publication (without_purges (model publication says)) (λ (m : Model). m.history.purged ≡ f.world.history.purged) (λ m act kept. act-leaves publication says m act ∙ kept) (λ m tallies kept. kept) f action refl

  other-leaves : (f : Faulty Model) (action : Action) → IsOther action → (behind_action stepping f action).world.history.purged ≡ f.world.history.purged
  other-leaves f action other = ap (λ (g : Faulty Model). g.world.history.purged) (sym (other-same f action other)) ∙ without-leaves f action

  -- A purge, which may fail.
  purge-either : (slips : Slips) (m : Model) → (let n : Model = (behind_action stepping (faulty m slips) Forget).world in IsMade publication says m n ⊎ IsLeft publication says m n)
  purge-either [] m = inl refl
  purge-either (None ∷ slips) m = inl refl
  purge-either (Some slip ∷ slips) m = slip-either publication says (is_allowed publication m.world Forget slip (model_step publication says m Forget).1) slips slip m

  -- Behind one action.

  sorted-behind : (f : Faulty Model) (action : Action) → AreSorted f.world.world.publisher → AreSorted (behind_action stepping f action).world.world.publisher
  sorted-behind f action sorted = fails-keep publication (model publication says) (λ (m : Model). AreSorted m.world.publisher) (λ m act s. step-sorted publication says (by_history m.history) m.world act s) (λ m others s. s) f action sorted

  abbrev Purged : Faulty Model → List Action → Key → Type 0
  Purged f actions key = WasPurgedByActions publication says f actions key

  later-purged : (f : Faulty Model) (action : Action) (actions : List Action) (key : Key) → Purged (behind_action stepping f action) actions key → Purged f (action ∷ actions) key
  later-purged f action actions key p = record {
    before = action ∷ p.before;
    later = p.later;
    parts = ap (λ (rest : List Action). action ∷ rest) p.parts;
    row = p.row;
    held = p.held;
    old = p.old;
    gone = p.gone;
  }

  first-purged : (f : Faulty Model) (actions : List Action) (key : Key) → IsMade publication says f.world (behind_action stepping f Forget).world → Dropped (old_in publication says f.world) f.world.world.publisher.rows key → Purged f (Forget ∷ actions) key
  first-purged f actions key made d = record {
    before = [];
    later = actions;
    parts = refl;
    row = d.row;
    held = d.held;
    old = d.is_old;
    gone = ap (λ (m : Model). row_at m.world.publisher.rows key) made ∙ d.gone;
  }

  purge-took : (f : Faulty Model) (actions : List Action) (key : Key) → AreSorted f.world.world.publisher → (let n : Model = (behind_action stepping f Forget).world in IsMade publication says f.world n ⊎ IsLeft publication says f.world n)
      → has_key (behind_action stepping f Forget).world.history.purged key ≡ true → (has_key f.world.history.purged key ≡ true) ⊎ Purged f (Forget ∷ actions) key
  purge-took f actions key sorted (inr left) is = inl (ap (λ (purged : List Key). has_key purged key) (sym left.0) ∙ is)
  purge-took f actions key sorted (inl made) is =
      let now : (has_key (keys_old (old_in publication says f.world) f.world.world.publisher.rows) key || has_key f.world.history.purged key) ≡ true = sym (made-purged publication says f.world key) ∙ ap (λ (m : Model). has_key m.history.purged key) (sym made) ∙ is in
      elim (has_key (keys_old (old_in publication says f.world) f.world.world.publisher.rows) key) as (λ (b : Bool). has_key (keys_old (old_in publication says f.world) f.world.world.publisher.rows) key ≡ b → (has_key f.world.history.purged key ≡ true) ⊎ Purged f (Forget ∷ actions) key) [
        | true ↦ (λ e. inr (first-purged f actions key made (was-dropped (old_in publication says f.world) f.world.world.publisher.rows key sorted.rows_ascend e)))
        | false ↦ (λ e. inl (grind (arith, now, e)))
      ] refl

  action-took : (f : Faulty Model) (action : Action) (actions : List Action) (key : Key) → AreSorted f.world.world.publisher → has_key (behind_action stepping f action).world.history.purged key ≡ true → (has_key f.world.history.purged key ≡ true) ⊎ Purged f (action ∷ actions) key
  action-took f Forget actions key sorted is = purge-took f actions key sorted (purge-either f.slips f.world) is
  action-took f action actions key sorted is = inl (ap (λ (purged : List Key). has_key purged key) (sym (other-leaves f action tt)) ∙ is)

  -- Behind a list of actions: what is purged was so before, or one of them took it.

  or-later : (f : Faulty Model) (action : Action) (actions : List Action) (key : Key) → AreSorted f.world.world.publisher → (has_key (behind_action stepping f action).world.history.purged key ≡ true) ⊎ Purged (behind_action stepping f action) actions key
      → (has_key f.world.history.purged key ≡ true) ⊎ Purged f (action ∷ actions) key
  or-later f action actions key sorted (inl is) = action-took f action actions key sorted is
  or-later f action actions key sorted (inr p) = inr (later-purged f action actions key p)

  pub purged-by-actions : (actions : List Action) (f : Faulty Model) (key : Key) → AreSorted f.world.world.publisher → has_key (behind_actions publication says f actions).world.history.purged key ≡ true → (has_key f.world.history.purged key ≡ true) ⊎ Purged f actions key
  purged-by-actions [] f key sorted is = inl is
  purged-by-actions (action ∷ actions) f key sorted is = or-later f action actions key sorted (purged-by-actions actions (behind_action stepping f action) key (sorted-behind f action sorted) is)

  -- And what a purge took is purged from then on.

  behind-parts : (before later : List Action) (f : Faulty Model) → behind_actions publication says f (before ++ Forget ∷ later) ≡ behind_actions publication says (behind_action stepping (behind_actions publication says f before) Forget) later
  behind-parts [] later f = refl
  behind-parts (action ∷ before) later f = behind-parts before later (behind_action stepping f action)

  pub purged-stays-by-actions : (actions : List Action) (f : Faulty Model) (key : Key) → AreSorted f.world.world.publisher → Purged f actions key → has_key (behind_actions publication says f actions).world.history.purged key ≡ true
  purged-stays-by-actions actions f key sorted p =
      let g : Faulty Model = behind_actions publication says f p.before in
      let n : Faulty Model = behind_action stepping g Forget in
      let before : AreSorted g.world.world.publisher = failing-actions-keep publication (model publication says) (λ (m : Model). AreSorted m.world.publisher) (λ m action s. step-sorted publication says (by_history m.history) m.world action s) (λ m others s. s) p.before f sorted in
      let here : has_key n.world.history.purged key ≡ true = purge-has publication says g.world n.world key p.row before p.held p.old p.gone (purge-either g.slips g.world) in
      let later : has_key (behind_actions publication says n p.later).world.history.purged key ≡ true = failing-actions-keep publication (model publication says) (λ (m : Model). has_key m.history.purged key ≡ true) (λ m action is. step-has publication says key m action is) (λ m others is. is) p.later n here in
      ap (λ (k : Faulty Model). has_key k.world.history.purged key) (ap (λ (list : List Action). behind_actions publication says f list) p.parts ∙ behind-parts p.before p.later f) ∙ later
