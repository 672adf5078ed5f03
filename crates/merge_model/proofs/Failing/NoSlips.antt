-- Where no step fails the run is the plain one, and one that fails shows in an answer.
use Rattle.std.proofs.Common.{◌≡◌, ℕ, List, [], ◌∷◌, Bool, true, false, Some, None, if◌then◌else◌, refl, ap, subst, inl, inr}
use Rattle.std.specs.List.{list_any}
use Rattle.merge_batch.specs.declared.refusal.Refusal.TheVariants as refusal
use Rattle.merge_schema.specs.declared.publication.Publication.{Publication}
use Rattle.merge_model.specs.World.Events.{after, answers}
use Rattle.merge_model.specs.Failing.{Faulty, Slip, Slips, acting_with, faulty, faulty_stepping, is_allowed, slip_if}
use Rattle.merge_model.specs.World.Session.{Stepping}
use Rattle.merge_model.specs.World.Steps.{Action, CloseAt, Deliver, Forget, Look, Make, MakeAnew, Pass, Send}
use Rattle.merge_model.specs.declared.event.Event.{Event}
use Rattle.merge_model.specs.declared.outcome.Outcome.{Outcome}
use Rattle.merge_model.specs.Failing.Reach.{AreNone}
use Rattle.merge_model.specs.Laws.SlipLaws.{is_slip, refused_for, shows_refusal}
use Rattle.merge_model.proofs.Runs.Alike.{Both, BothOr, events-alike, events-or}

module _ {W : Type 0} (publication : Publication) (stepping : Stepping W) where
  abbrev pub Plain : Faulty W → W → Type 0
  Plain f w = (f.world ≡ w) × AreNone f.slips

  acting : (slips : Slips) (action : Action) (w : W) (done : W × Outcome) → AreNone slips → Both Plain (acting_with publication stepping slips action w done) done
  acting [] action w done none = (refl, (refl, tt))
  acting (None ∷ slips) action w done none = (refl, (refl, none))
  acting (Some slip ∷ slips) action w done none = absurd none

  acts-from : (action : Action) (w : W) (slips : Slips) → AreNone slips → Both Plain ((faulty_stepping publication stepping).act (faulty w slips) action) (stepping.act w action)
  acts-from (Pass seconds) w slips none = (refl, (refl, none))
  acts-from (Make site change) w slips none = acting slips (Make site change) w (stepping.act w (Make site change)) none
  acts-from (CloseAt site) w slips none = acting slips (CloseAt site) w (stepping.act w (CloseAt site)) none
  acts-from (Send site sending) w slips none = acting slips (Send site sending) w (stepping.act w (Send site sending)) none
  acts-from (Deliver number) w slips none = acting slips (Deliver number) w (stepping.act w (Deliver number)) none
  acts-from (MakeAnew site) w slips none = acting slips (MakeAnew site) w (stepping.act w (MakeAnew site)) none
  acts-from Forget w slips none = acting slips Forget w (stepping.act w Forget) none
  acts-from Look w slips none = acting slips Look w (stepping.act w Look) none

  pub acts-plain : (f : Faulty W) (w : W) (action : Action) → Plain f w → Both Plain ((faulty_stepping publication stepping).act f action) (stepping.act w action)
  acts-plain f w action same = subst (λ (v : W). Both Plain ((faulty_stepping publication stepping).act f action) (stepping.act v action)) same.0 (acts-from action f.world f.slips same.1)

  pub none-fails : (w : W) (slips : Slips) (events : List Event) → AreNone slips
      → (answers publication (faulty_stepping publication stepping) (faulty w slips) events ≡ answers publication stepping w events) × Plain (after publication (faulty_stepping publication stepping) (faulty w slips) events) (after publication stepping w events)
  none-fails w slips events none = events-alike (faulty_stepping publication stepping) stepping Plain acts-plain (λ f v same. ap (λ (u : W). stepping.look u) same.0) publication events (faulty w slips) w (refl, none)

  -- The same world, until a step fails.

  abbrev pub Same : Faulty W → W → Type 0
  Same f w = f.world ≡ w

  slip-off : (is_fault : Bool) → is_slip (if is_fault then refusal.StoreFault else refusal.NoMemory) ≡ true
  slip-off true = refl
  slip-off false = refl

  slip-or : (allowed : Bool) (slips : Slips) (slip : Slip) (action : Action) (w : W) (done : W × Outcome) → BothOr Same (refused_for is_slip) (slip_if publication stepping allowed slips slip action w done) done
  slip-or true slips slip action w done = inr (slip-off slip.is_fault)
  slip-or false slips slip action w done = inl (refl, refl)

  acting-or : (slips : Slips) (action : Action) (w : W) (done : W × Outcome) → BothOr Same (refused_for is_slip) (acting_with publication stepping slips action w done) done
  acting-or [] action w done = inl (refl, refl)
  acting-or (None ∷ slips) action w done = inl (refl, refl)
  acting-or (Some slip ∷ slips) action w done = slip-or (is_allowed publication (stepping.look w) action slip done.1) slips slip action w done

  acts-or-from : (action : Action) (f : Faulty W) → BothOr Same (refused_for is_slip) ((faulty_stepping publication stepping).act f action) (stepping.act f.world action)
  acts-or-from (Pass seconds) f = inl (refl, refl)
  acts-or-from (Make site change) f = acting-or f.slips (Make site change) f.world (stepping.act f.world (Make site change))
  acts-or-from (CloseAt site) f = acting-or f.slips (CloseAt site) f.world (stepping.act f.world (CloseAt site))
  acts-or-from (Send site sending) f = acting-or f.slips (Send site sending) f.world (stepping.act f.world (Send site sending))
  acts-or-from (Deliver number) f = acting-or f.slips (Deliver number) f.world (stepping.act f.world (Deliver number))
  acts-or-from (MakeAnew site) f = acting-or f.slips (MakeAnew site) f.world (stepping.act f.world (MakeAnew site))
  acts-or-from Forget f = acting-or f.slips Forget f.world (stepping.act f.world Forget)
  acts-or-from Look f = acting-or f.slips Look f.world (stepping.act f.world Look)

  pub acts-or : (f : Faulty W) (w : W) (action : Action) → Same f w → BothOr Same (refused_for is_slip) ((faulty_stepping publication stepping).act f action) (stepping.act w action)
  acts-or f w action same = subst (λ (v : W). BothOr Same (refused_for is_slip) ((faulty_stepping publication stepping).act f action) (stepping.act v action)) same (acts-or-from action f)

  passes-same : (f : Faulty W) (w : W) (seconds : ℕ) → Same f w → Both Same ((faulty_stepping publication stepping).act f (Pass seconds)) (stepping.act w (Pass seconds))
  passes-same f w seconds same = subst (λ (v : W). Both Same ((faulty_stepping publication stepping).act f (Pass seconds)) (stepping.act v (Pass seconds))) same (refl, refl)

  looks-same : (f : Faulty W) (w : W) → Same f w → stepping.look f.world ≡ stepping.look w
  looks-same f w same = ap (λ (v : W). stepping.look v) same

  pub failures-show : (w : W) (slips : Slips) (events : List Event) → list_any (shows_refusal is_slip) (answers publication (faulty_stepping publication stepping) (faulty w slips) events) ≡ false
      → (answers publication (faulty_stepping publication stepping) (faulty w slips) events ≡ answers publication stepping w events) × ((after publication (faulty_stepping publication stepping) (faulty w slips) events).world ≡ after publication stepping w events)
  failures-show w slips events none = events-or (faulty_stepping publication stepping) stepping Same is_slip acts-or passes-same looks-same publication events (faulty w slips) w refl none
