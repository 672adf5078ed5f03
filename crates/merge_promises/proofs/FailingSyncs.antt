-- Two rounds of sessions settle every site, also where steps may fail: a session that nothing refused is the plain one.
use Rattle.std.specs.Prelude.{List, None, [], false, refl, true, ℕ, ◌∷◌, ◌≡◌}
use Rattle.std.proofs.Common.{ap, inl, inr, subst, sym, ◌∙◌}
use Rattle.merge_types.specs.declared.identifiers.SiteId.{SiteId}
use Rattle.merge_schema.specs.declared.publication.Publication.{Publication}
use Rattle.merge_model.specs.Failing.{Faulty, faulty, faulty_stepping}
use Rattle.merge_model.specs.Failing.Runs.{model_behind}
use Rattle.merge_model.specs.History.Model.{Model, model}
use Rattle.merge_model.specs.Laws.SlipLaws.{is_slip}
use Rattle.merge_model.specs.World.Session.{Stepping}
use Rattle.merge_model.specs.World.Steps.{Pass}
use Rattle.merge_model.specs.World.{Saying}
use Rattle.merge_model.proofs.Failing.NoSlips.{Same, acts-or}
use Rattle.merge_model.proofs.Runs.Alike.{Both, session-alike, stops_off}
use Rattle.merge_laws.specs.Laws.{OfEveryValidRun}
use Rattle.merge_promises.specs.Syncs.{AllSync, AllSyncFailing, FailingTwoRoundsSettle, Syncs, session_of, synced_failing}
use Rattle.merge_promises.proofs.SyncLaw.{two-rounds}

-- the passing of time does not fail, and what is seen of a world is seen of the one in it
module _ {W : Type 0} (publication : Publication) (stepping : Stepping W) where
  passes : (f : Faulty W) (w : W) (seconds : ℕ) → Same publication stepping f w → Both (Same publication stepping) ((faulty_stepping publication stepping).act f (Pass seconds)) (stepping.act w (Pass seconds))
  passes f w seconds same = subst (λ (v : W). Both (Same publication stepping) ((faulty_stepping publication stepping).act f (Pass seconds)) (stepping.act v (Pass seconds))) same (refl, refl)

  looks : (f : Faulty W) (w : W) → Same publication stepping f w → stepping.look f.world ≡ stepping.look w
  looks f w same = ap (λ (v : W). stepping.look v) same

module _ (publication : Publication) (says : Saying) where
  -- The session of the plain model leaves the same, and nothing refuses it either.
  record IsPlain (site : SiteId) (f : Faulty Model) : Type 0 where
    world : (synced_failing publication says site f).world.world ≡ (session_of publication says site f.world).world
    ended : (session_of publication says site f.world).stop ≡ None

  is-plain : (site : SiteId) (f : Faulty Model) → (synced_failing publication says site f).stop ≡ None → IsPlain site f
  is-plain site f ended =
      let plainly : Stepping Model = model publication says in
      elim (session-alike (faulty_stepping publication plainly) plainly (Same publication plainly) is_slip (acts-or publication plainly) (passes publication plainly) (looks publication plainly) site f f.world refl) [
        | inl alike ↦ record { world = alike.world; ended = sym alike.stop ∙ ended }
        | inr slipped ↦ (let never : false ≡ true = ap (stops_off is_slip) (sym ended) ∙ slipped in absurd (cc never))
      ]

  -- so it is of one site after the other
  all-plain : (sites : List SiteId) (f g : Faulty Model) → AllSyncFailing publication says sites f g → AllSync publication says sites f.world g.world
  all-plain [] f g same = ap (λ (h : Faulty Model). h.world) same
  all-plain (site ∷ sites) f g all =
      let plain = is-plain site f all.0.ended in
      let here : Syncs publication says site f.world = record { tables = all.0.tables; here = all.0.here; ended = plain.ended } in
      (here, subst (λ (m : Model). AllSync publication says sites m g.world) plain.world (all-plain sites (synced_failing publication says site f).world g all.1))

pub failing-two-rounds : OfEveryValidRun FailingTwoRoundsSettle
failing-two-rounds resolvers publication valid says tallies slips events later first second between done firsts seconds one other =
    two-rounds resolvers publication valid says tallies slips events first second between.world done.world firsts seconds
    (all-plain publication says first (faulty (model_behind publication says tallies slips events) later) between one) (all-plain publication says second between done other)
