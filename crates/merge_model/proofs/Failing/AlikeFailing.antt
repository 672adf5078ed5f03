-- Two worlds whose steps are alike fail alike, with the same slips.
use Rattle.std.proofs.Common.{◌≡◌, ℕ, List, [], ◌∷◌, Bool, true, false, Some, None, refl, ap, subst, ◌∙◌, take}
use Rattle.merge_resolve.specs.Asked.{tallies_after}
use Rattle.merge_schema.specs.declared.publication.Publication.{Publication}
use Rattle.merge_model.specs.World.Events.{after, answers}
use Rattle.merge_model.specs.Failing.{Faulty, Slip, Slips, acting_with, fails, faulty, faulty_stepping, is_allowed, questions_by, slip_if}
use Rattle.merge_model.specs.World.Session.{Stepping}
use Rattle.merge_model.specs.World.Steps.{Action, CloseAt, Deliver, Forget, Look, Make, MakeAnew, Pass, Send}
use Rattle.merge_model.specs.World.{World}
use Rattle.merge_model.specs.declared.event.Event.{Event}
use Rattle.merge_model.specs.declared.outcome.Outcome.{Outcome}
use Rattle.merge_model.proofs.Runs.Alike.{Both, events-alike}

module _ {V W : Type 0} (publication : Publication) (one : Stepping V) (other : Stepping W) (R : V → W → Type 0) (acts : (v : V) (w : W) (action : Action) → R v w → Both R (one.act v action) (other.act w action)) (looks : (v : V) (w : W) → R v w → one.look v ≡ other.look w)
    (retallies : (v : V) (w : W) (tallies : List ℕ) → R v w → R (one.retally tallies v) (other.retally tallies w)) where
  -- the same is still to fail
  abbrev pub Together : Faulty V → Faulty W → Type 0
  Together f g = (f.slips ≡ g.slips) × R f.world g.world

  -- the tallies behind a step that failed
  abbrev tallied : Slip → Action → World → Outcome → List ℕ
  tallied slip action w outcome = tallies_after w.tallies (take slip.asked (questions_by publication w action outcome))

  slip-alike : (allowed : Bool) (slips : Slips) (slip : Slip) (action : Action) (v : V) (w : W) (x : V × Outcome) (y : W × Outcome) → R v w → Both R x y → Both Together (slip_if publication one allowed slips slip action v x) (slip_if publication other allowed slips slip action w y)
  slip-alike true slips slip action v w x y same done = (
    refl,
    (
      refl,
      subst (λ (tallies : List ℕ). R (one.retally (tallied slip action (one.look v) x.1) v) (other.retally tallies w))
          (ap (λ (u : World). tallied slip action u x.1) (looks v w same) ∙ ap (λ (outcome : Outcome). tallied slip action (other.look w) outcome) done.0) (retallies v w (tallied slip action (one.look v) x.1) same),
    ),
  )
  slip-alike false slips slip action v w x y same done = (done.0, (refl, done.1))

  acting-alike : (slips : Slips) (action : Action) (v : V) (w : W) (x : V × Outcome) (y : W × Outcome) → R v w → Both R x y → Both Together (acting_with publication one slips action v x) (acting_with publication other slips action w y)
  acting-alike [] action v w x y same done = (done.0, (refl, done.1))
  acting-alike (None ∷ slips) action v w x y same done = (done.0, (refl, done.1))
  acting-alike (Some slip ∷ slips) action v w x y same done = subst (λ (allowed : Bool). Both Together (acting_with publication one (Some slip ∷ slips) action v x) (slip_if publication other allowed slips slip action w y))
      (ap (λ (u : World). is_allowed publication u action slip x.1) (looks v w same) ∙ ap (λ (outcome : Outcome). is_allowed publication (other.look w) action slip outcome) done.0)
      (slip-alike (is_allowed publication (one.look v) action slip x.1) slips slip action v w x y same done)

  fails-from : (slips : Slips) (v : V) (w : W) (action : Action) → R v w → Both Together (fails publication one (faulty v slips) action) (fails publication other (faulty w slips) action)
  fails-from slips v w (Pass seconds) same = (let done = acts v w (Pass seconds) same in (done.0, (refl, done.1)))
  fails-from slips v w (Make site change) same = acting-alike slips (Make site change) v w (one.act v (Make site change)) (other.act w (Make site change)) same (acts v w (Make site change) same)
  fails-from slips v w (CloseAt site) same = acting-alike slips (CloseAt site) v w (one.act v (CloseAt site)) (other.act w (CloseAt site)) same (acts v w (CloseAt site) same)
  fails-from slips v w (Send site sending) same = acting-alike slips (Send site sending) v w (one.act v (Send site sending)) (other.act w (Send site sending)) same (acts v w (Send site sending) same)
  fails-from slips v w (Deliver number) same = acting-alike slips (Deliver number) v w (one.act v (Deliver number)) (other.act w (Deliver number)) same (acts v w (Deliver number) same)
  fails-from slips v w (MakeAnew site) same = acting-alike slips (MakeAnew site) v w (one.act v (MakeAnew site)) (other.act w (MakeAnew site)) same (acts v w (MakeAnew site) same)
  fails-from slips v w Forget same = acting-alike slips Forget v w (one.act v Forget) (other.act w Forget) same (acts v w Forget same)
  fails-from slips v w Look same = acting-alike slips Look v w (one.act v Look) (other.act w Look) same (acts v w Look same)

  pub fails-alike : (f : Faulty V) (g : Faulty W) (action : Action) → Together f g → Both Together (fails publication one f action) (fails publication other g action)
  fails-alike f g action same = subst (λ (slips : Slips). Both Together (fails publication one f action) (fails publication other (faulty g.world slips) action)) same.0 (fails-from f.slips f.world g.world action same.1)

  pub runs-alike : (slips : Slips) (events : List Event) (v : V) (w : W) → R v w → (answers publication (faulty_stepping publication one) (faulty v slips) events ≡ answers publication (faulty_stepping publication other) (faulty w slips) events)
      × Together (after publication (faulty_stepping publication one) (faulty v slips) events) (after publication (faulty_stepping publication other) (faulty w slips) events)
  runs-alike slips events v w same = events-alike (faulty_stepping publication one) (faulty_stepping publication other) Together fails-alike (λ f g both. looks f.world g.world both.1) publication events (faulty v slips) (faulty w slips) (refl, same)
