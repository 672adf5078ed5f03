-- What every step keeps, and other tallies of resolvers do, is kept by every list of events in which steps may fail.
use Rattle.std.proofs.Common.{ℕ, List, [], ◌∷◌, Bool, true, false, Some, None, take}
use Rattle.merge_resolve.specs.Asked.{tallies_after}
use Rattle.merge_schema.specs.declared.publication.Publication.{Publication}
use Rattle.merge_model.specs.World.Events.{after}
use Rattle.merge_model.specs.Failing.{Faulty, Slip, Slips, acting_with, fails, faulty_stepping, is_allowed, questions_by, slip_if}
use Rattle.merge_model.specs.World.Session.{Stepping}
use Rattle.merge_model.specs.World.Steps.{Action, CloseAt, Deliver, Forget, Look, Make, MakeAnew, Pass, Send}
use Rattle.merge_model.specs.declared.event.Event.{Event}
use Rattle.merge_model.specs.declared.outcome.Outcome.{Outcome}
use Rattle.merge_model.proofs.Runs.Events.{events-keep}

module _ {W : Type 0} (publication : Publication) (stepping : Stepping W) (P : W → Type 0) (of_act : (w : W) (action : Action) → P w → P (stepping.act w action).0) (of_tallies : (w : W) (tallies : List ℕ) → P w → P (stepping.retally tallies w)) where
  slip-keeps : (allowed : Bool) (slips : Slips) (slip : Slip) (action : Action) (w : W) (done : W × Outcome) → P w → P done.0 → P (slip_if publication stepping allowed slips slip action w done).0.world
  slip-keeps true slips slip action w done before after = of_tallies w (tallies_after (stepping.look w).tallies (take slip.asked (questions_by publication (stepping.look w) action done.1))) before
  slip-keeps false slips slip action w done before after = after

  acting-keeps : (slips : Slips) (action : Action) (w : W) (done : W × Outcome) → P w → P done.0 → P (acting_with publication stepping slips action w done).0.world
  acting-keeps [] action w done before after = after
  acting-keeps (None ∷ slips) action w done before after = after
  acting-keeps (Some slip ∷ slips) action w done before after = slip-keeps (is_allowed publication (stepping.look w) action slip done.1) slips slip action w done before after

  pub fails-keep : (f : Faulty W) (action : Action) → P f.world → P (fails publication stepping f action).0.world
  fails-keep f (Pass seconds) h = of_act f.world (Pass seconds) h
  fails-keep f (Make site change) h = acting-keeps f.slips (Make site change) f.world (stepping.act f.world (Make site change)) h (of_act f.world (Make site change) h)
  fails-keep f (CloseAt site) h = acting-keeps f.slips (CloseAt site) f.world (stepping.act f.world (CloseAt site)) h (of_act f.world (CloseAt site) h)
  fails-keep f (Send site sending) h = acting-keeps f.slips (Send site sending) f.world (stepping.act f.world (Send site sending)) h (of_act f.world (Send site sending) h)
  fails-keep f (Deliver number) h = acting-keeps f.slips (Deliver number) f.world (stepping.act f.world (Deliver number)) h (of_act f.world (Deliver number) h)
  fails-keep f (MakeAnew site) h = acting-keeps f.slips (MakeAnew site) f.world (stepping.act f.world (MakeAnew site)) h (of_act f.world (MakeAnew site) h)
  fails-keep f Forget h = acting-keeps f.slips Forget f.world (stepping.act f.world Forget) h (of_act f.world Forget h)
  fails-keep f Look h = acting-keeps f.slips Look f.world (stepping.act f.world Look) h (of_act f.world Look h)

  pub runs-keep : (events : List Event) (f : Faulty W) → P f.world → P (after publication (faulty_stepping publication stepping) f events).world
  runs-keep events f h = events-keep publication (faulty_stepping publication stepping) (λ (g : Faulty W). P g.world) fails-keep events f h
