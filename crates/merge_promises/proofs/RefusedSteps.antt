-- A step that fails leaves what it found, but for tallies, where one that is refused does.
use Rattle.std.specs.Prelude.{Bool, None, Some, [], false, refl, true, ◌∷◌, ◌≡◌}
use Rattle.std.proofs.Common.{ap, ◌∙◌}
use Rattle.merge_schema.specs.declared.publication.Publication.{Publication}
use Rattle.merge_batch.specs.declared.refusal.Refusal.{Refusal}
use Rattle.merge_model.specs.Failing.{Faulty, Slip, Slips, acting_with, fails, is_allowed, slip_if}
use Rattle.merge_model.specs.History.Model.{Model, model}
use Rattle.merge_model.specs.World.Events.{machine}
use Rattle.merge_model.specs.World.Session.{Stepping}
use Rattle.merge_model.specs.World.Steps.{Action, CloseAt, Deliver, Forget, Look, Make, MakeAnew, Pass, Send}
use Rattle.merge_model.specs.World.{Saying, World}
use Rattle.merge_model.specs.declared.outcome.Outcome.TheVariants.{Refuses}
use Rattle.merge_promises.specs.Failures.{KeepsTables, OnlyAsks}

module _ {W : Type 0} (publication : Publication) (stepping : Stepping W) (leaves : (w : W) (action : Action) (why : Refusal) → (stepping.act w action).1 ≡ Refuses why → (stepping.act w action).0 ≡ w) (retallied : (w : W) → w ≡ stepping.retally (stepping.look w).tallies w) where
  plainly : (w : W) (action : Action) (why : Refusal) → (stepping.act w action).1 ≡ Refuses why → OnlyAsks publication stepping w action (stepping.act w action).0
  plainly w action why is = record { asked = 0; same = leaves w action why is ∙ retallied w }

  slip-asks : (allowed : Bool) (slips : Slips) (slip : Slip) (action : Action) (w : W) (why : Refusal) → (slip_if publication stepping allowed slips slip action w (stepping.act w action)).1 ≡ Refuses why
      → OnlyAsks publication stepping w action (slip_if publication stepping allowed slips slip action w (stepping.act w action)).0.world
  slip-asks true slips slip action w why is = record { asked = slip.asked; same = refl }
  slip-asks false slips slip action w why is = plainly w action why is

  acting-asks : (slips : Slips) (action : Action) (w : W) (why : Refusal) → (acting_with publication stepping slips action w (stepping.act w action)).1 ≡ Refuses why
      → OnlyAsks publication stepping w action (acting_with publication stepping slips action w (stepping.act w action)).0.world
  acting-asks [] action w why is = plainly w action why is
  acting-asks (None ∷ slips) action w why is = plainly w action why is
  acting-asks (Some slip ∷ slips) action w why is = slip-asks (is_allowed publication (stepping.look w) action slip (stepping.act w action).1) slips slip action w why is

  pub fails-asks : (f : Faulty W) (action : Action) (why : Refusal) → (fails publication stepping f action).1 ≡ Refuses why → OnlyAsks publication stepping f.world action (fails publication stepping f action).0.world
  fails-asks f (Pass seconds) why is = plainly f.world (Pass seconds) why is
  fails-asks f (Make site change) why is = acting-asks f.slips (Make site change) f.world why is
  fails-asks f (CloseAt site) why is = acting-asks f.slips (CloseAt site) f.world why is
  fails-asks f (Send site sending) why is = acting-asks f.slips (Send site sending) f.world why is
  fails-asks f (Deliver number) why is = acting-asks f.slips (Deliver number) f.world why is
  fails-asks f (MakeAnew site) why is = acting-asks f.slips (MakeAnew site) f.world why is
  fails-asks f Forget why is = acting-asks f.slips Forget f.world why is
  fails-asks f Look why is = acting-asks f.slips Look f.world why is

-- so its tables stay, and its history
pub asks-keeps : (publication : Publication) (says : Saying) (w : World) (action : Action) (v : World) → OnlyAsks publication (machine publication says) w action v → KeepsTables w v
asks-keeps publication says w action v asks = record {
  publisher = ap (λ (x : World). x.publisher) asks.same;
  subscribers = ap (λ (x : World). x.subscribers) asks.same;
  pool = ap (λ (x : World). x.pool) asks.same;
  moment = ap (λ (x : World). x.moment) asks.same;
}

pub model-keeps : (publication : Publication) (says : Saying) (m : Model) (action : Action) (k : Model) → OnlyAsks publication (model publication says) m action k → KeepsTables m.world k.world × (k.history ≡ m.history)
model-keeps publication says m action k asks = (
  record {
    publisher = ap (λ (x : Model). x.world.publisher) asks.same;
    subscribers = ap (λ (x : Model). x.world.subscribers) asks.same;
    pool = ap (λ (x : Model). x.world.pool) asks.same;
    moment = ap (λ (x : Model). x.world.moment) asks.same;
  },
  ap (λ (x : Model). x.history) asks.same,
)
