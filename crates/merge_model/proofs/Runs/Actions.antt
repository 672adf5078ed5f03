-- What every step keeps, every list of actions keeps, and every list of events is such a list.
use Rattle.std.specs.Prelude.{◌≡◌, ℕ, List, [], ◌∷◌, ◌++◌, Bool, true, false, refl, ◌||◌}
use Rattle.std.specs.List.{list_any}
use Rattle.std.proofs.Common.{ap, ◌∙◌, inl, inr}
use Rattle.merge_schema.specs.declared.publication.Publication.{Publication}
use Rattle.merge_batch.specs.declared.refusal.Refusal.{Refusal}
use Rattle.merge_model.specs.World.Events.{after}
use Rattle.merge_model.specs.Failing.{Faulty, faulty_stepping}
use Rattle.merge_model.specs.Failing.Runs.{after_actions, outcomes}
use Rattle.merge_model.specs.World.Session.{Stepping}
use Rattle.merge_model.specs.Laws.SlipLaws.{refused_for}
use Rattle.merge_model.specs.World.Steps.{Action}
use Rattle.merge_model.specs.declared.event.Event.{Event}
use Rattle.merge_model.specs.declared.outcome.Outcome.{Outcome}
use Rattle.merge_model.proofs.Runs.Alike.{Both, BothOr}
use Rattle.merge_model.proofs.Runs.Events.{events-keep}
use Rattle.merge_model.proofs.Failing.KeptFailing.{fails-keep}

module _ {W : Type 0} (stepping : Stepping W) where
  pub actions-keep : (P : W → Type 0) → ((w : W) (action : Action) → P w → P (stepping.act w action).0) → (actions : List Action) (w : W) → P w → P (after_actions stepping w actions)
  actions-keep P of_act [] w h = h
  actions-keep P of_act (action ∷ actions) w h = actions-keep P of_act actions (stepping.act w action).0 (of_act w action h)

  one-more : (actions : List Action) (action : Action) (w : W) → after_actions stepping w (actions ++ action ∷ []) ≡ (stepping.act (after_actions stepping w actions) action).0
  one-more [] action w = refl
  one-more (first ∷ actions) action w = one-more actions action (stepping.act w first).0

  pub events-are-actions : (publication : Publication) (events : List Event) (w : W) → (actions : List Action) × (after_actions stepping w actions ≡ after publication stepping w events)
  events-are-actions publication events w = events-keep publication stepping (λ (v : W). (actions : List Action) × (after_actions stepping w actions ≡ v))
      (λ v action made. (made.0 ++ action ∷ [], one-more made.0 action w ∙ ap (λ (u : W). (stepping.act u action).0) made.1)) events w ([], refl)

-- Where steps may fail, so is what other tallies of resolvers keep too.
pub failing-actions-keep : {W : Type 0} (publication : Publication) (stepping : Stepping W) (P : W → Type 0) → ((w : W) (action : Action) → P w → P (stepping.act w action).0) → ((w : W) (tallies : List ℕ) → P w → P (stepping.retally tallies w))
    → (actions : List Action) (f : Faulty W) → P f.world → P (after_actions (faulty_stepping publication stepping) f actions).world
failing-actions-keep {W = W} publication stepping P of_act of_tallies actions f h =
    actions-keep (faulty_stepping publication stepping) (λ (g : Faulty W). P g.world) (λ g action k. fails-keep publication stepping P of_act of_tallies g action k) actions f h

-- Two worlds whose steps are alike do alike.
module _ {V W : Type 0} (one : Stepping V) (other : Stepping W) (R : V → W → Type 0) (acts : (v : V) (w : W) (action : Action) → R v w → Both R (one.act v action) (other.act w action)) where
  pub actions-alike : (actions : List Action) (v : V) (w : W) → R v w → (outcomes one v actions ≡ outcomes other w actions) × R (after_actions one v actions) (after_actions other w actions)
  actions-alike [] v w r = (refl, r)
  actions-alike (action ∷ actions) v w r =
      let done = acts v w action r in
      let rest = actions-alike actions (one.act v action).0 (other.act w action).0 done.1 in (
        ap (λ (outcome : Outcome). outcome ∷ outcomes one (one.act v action).0 actions) done.0 ∙ ap (λ (more : List Outcome). (other.act w action).1 ∷ more) rest.0,
        rest.1,
      )

neither : (x y : Bool) → (x || y) ≡ false → (x ≡ false) × (y ≡ false)
neither true y is = absurd (cc is)
neither false y is = (refl, is)

-- And so do they until one of the first world is refused for a reason that excuses it.
module _ {V W : Type 0} (one : Stepping V) (other : Stepping W) (R : V → W → Type 0) (off : Refusal → Bool) (acts : (v : V) (w : W) (action : Action) → R v w → BothOr R (refused_for off) (one.act v action) (other.act w action)) where
  first-alike : (x : V × Outcome) (y : W × Outcome) → refused_for off x.1 ≡ false → BothOr R (refused_for off) x y → Both R x y
  first-alike x y none (inl both) = both
  first-alike x y none (inr is) = absurd (cc (none, is))

  pub actions-or : (actions : List Action) (v : V) (w : W) → R v w → list_any (refused_for off) (outcomes one v actions) ≡ false → (outcomes one v actions ≡ outcomes other w actions) × R (after_actions one v actions) (after_actions other w actions)
  actions-or [] v w r none = (refl, r)
  actions-or (action ∷ actions) v w r none =
      let each = neither (refused_for off (one.act v action).1) (list_any (refused_for off) (outcomes one (one.act v action).0 actions)) none in
      let done = first-alike (one.act v action) (other.act w action) each.0 (acts v w action r) in
      let rest = actions-or actions (one.act v action).0 (other.act w action).0 done.1 each.1 in (
        ap (λ (outcome : Outcome). outcome ∷ outcomes one (one.act v action).0 actions) done.0 ∙ ap (λ (others : List Outcome). (other.act w action).1 ∷ others) rest.0,
        rest.1,
      )
