-- Every step of the model keeps it, and so does every list of events; and so nothing that is old is above a live site's watermark and its base.
use Rattle.std.specs.Prelude.{◌≡◌, ◌≤◌, ◌<◌, ◌+◌, ◌-◌, ◌*◌, ◌||◌, max, ℕ, List, Bool, true, false, Option, Some, None, refl, IfSome, map, nat_le, nat_lt, unwrap_or, []}
use Rattle.std.specs.Option.{option_map_or}
use Rattle.std.proofs.Common.{arith, subst, sym, ap, ◌∙◌}
use Rattle.std.proofs.lemmas.Bool.Decides.{nat_tests}
use Rattle.merge_types.specs.declared.identifiers.SiteId.{SiteId}
use Rattle.merge_gens.specs.Book.{moment_of}
use Rattle.merge_gens.specs.Retention.{is_expired}
use Rattle.merge_gens.specs.declared.sites.SiteState.{SiteState}
use Rattle.merge_schema.specs.declared.publication.Publication.{Publication}
use Rattle.merge_model.specs.Failing.{Slips, faulty}
use Rattle.merge_model.specs.Failing.Runs.{model_behind, model_behind_actions}
use Rattle.merge_model.specs.declared.event.Event.{Event}
use Rattle.merge_model.specs.Tables.{PublisherTables}
use Rattle.merge_model.specs.Tables.Keys.{at_number, put_number}
use Rattle.merge_model.specs.Judge.{PublisherJudge}
use Rattle.merge_model.specs.Publisher.{at_moment, last_closed, no_state}
use Rattle.merge_model.specs.Publisher.PublisherLocal.{made_locally, next_dot}
use Rattle.merge_model.specs.Publisher.PublisherJoin.{join_taken}
use Rattle.merge_model.specs.Publisher.PublisherPurge.{cutoff, grace, is_old, purge}
use Rattle.merge_model.specs.Laws.Promises.{IsPast, OldIsPast, base_of}
use Rattle.merge_model.specs.World.{Saying, World}
use Rattle.merge_model.specs.World.Steps.{Action}
use Rattle.merge_model.specs.History.{History, pasts_with, Line}
use Rattle.merge_model.specs.Judge.ByHistory.{by_history, by_past, by_made}
use Rattle.merge_model.specs.History.Noting
use Rattle.merge_model.specs.History.Model.{Model, empty_model, model, model_step}
use Rattle.merge_model.specs.Publisher.Acts.{Act}
use Rattle.merge_model.specs.Publisher.PublisherUpload.{taken_in}
use Rattle.merge_model.proofs.Runs.Actions.{failing-actions-keep}
use Rattle.merge_laws.proofs.Runs.Tallied.{received-tallied}
use Rattle.merge_laws.specs.Facts.Received.{Received}
use Rattle.merge_laws.specs.Facts.Purges.{StateInStep, IsInStep}
use Rattle.merge_laws.proofs.Received.Models.{model-fine, received-always}
use Rattle.merge_laws.proofs.Walking.Shapes.{step-shaped}
use Rattle.merge_laws.proofs.Walking.{StepsKeep, acts_in, here, join_noted, own_noted, step-keeps}
use Rattle.merge_laws.proofs.Purges.PurgeLists.{found-at}
use Rattle.merge_laws.proofs.Purges.PurgeNotes.{lines-bases, upload-bases, purge-bases, taken-bases, anew-bases}
use Rattle.merge_laws.proofs.Purges.PurgeSteps.{moment-in-step, passed-in-step, entered-in-step, closed-in-step, purge-in-step, taken-in-step, asked-in-step, joined-in-step}
use Rattle.merge_laws.proofs.Runs.OfActions.{of-events}

-- at this moment
abbrev AtMoment : ℕ → World → History → Type 0
AtMoment now w h = Received w h × (w.moment.0 ≡ now)

abbrev InStepAt : ℕ → World → History → Type 0
InStepAt now w h = IsInStep now w.publisher h.bases

same-bases : (now : ℕ) (q : PublisherTables) (h k : History) → k.bases ≡ h.bases → IsInStep now q h.bases → IsInStep now q k.bases
same-bases now q h k same fits = subst (λ (bases : List (ℕ × ℕ)). IsInStep now q bases) (sym same) fits

moved : (now : ℕ) (w : World) (h : History) → w.moment.0 ≡ now → IsInStep now w.publisher h.bases → IsInStep now (here w) h.bases
moved now w h same = subst (λ (n : ℕ). IsInStep n w.publisher h.bases → IsInStep n (here w) h.bases) same (moment-in-step w.moment w.publisher h.bases)

in-step-keeps : (publication : Publication) (says : Saying) (now : ℕ) → StepsKeep publication says (AtMoment now) (InStepAt now)
in-step-keeps publication says now = record {
  moment = λ w h later b p. p;
  own_change = λ w h change d b p fine is. (let judge : PublisherJudge = by_past h (pasts_with h 0) in
      let lines : List Line = Noting.lines_of_entries (last_closed (here w) + 1) (Noting.drawn_entries publication judge change (here w) d) in
      same-bases now (made_locally publication judge change d (here w)).0 h (own_noted publication judge change d (here w) h) (lines-bases lines (Noting.with_change publication (next_dot (here w)) (last_closed (here w) + 1) change d.value h))
      (entered-in-step now _ (here w).latest (here w).gens (here w).sites h.bases (moved now w h b.1 p)));
  own_closing = λ w h b p. closed-in-step now (here w) h.bases (moved now w h b.1 p);
  forgetting = λ w h b p. (let judge : PublisherJudge = by_past h (pasts_with h 0) in
      same-bases now (purge publication w.moment w.publisher).0 h (Noting.noted_purge publication judge (here w) h) (purge-bases publication judge (here w) h) (purge-in-step now publication (here w) h.bases (moved now w h b.1 p)));
  same = λ w h s b p at. p;
  subscriber_change = λ w h s change d b p at named fine is. p;
  subscriber_closing = λ w h s b p at. p;
  anew = λ w h s b p at. same-bases now w.publisher h (Noting.noted_anew (by_made h s.site) s h) (anew-bases (by_history h) s.site (Some s) h) p;
  sends_join = λ w h s b p at joining. p;
  sends_upload = λ w h s b p at fine. p;
  sends_ranges = λ w h s b p at fine. p;
  sends_ask = λ w h s b p at fine. p;
  joins = λ w h number m b p at fine acts. (let judge : PublisherJudge = by_past h (pasts_with h number) in
      let joined : History = record (Noting.with_done m.site.0 0 m.generation h) { bases = put_number h.bases m.site.0 (last_closed w.publisher) } in
      same-bases now (join_taken m (here w)) joined (join_noted judge m w.publisher h) (lines-bases (map (Noting.gone_line (last_closed w.publisher + 1)) (map (Noting.gone_for m.site) (Noting.left_rows judge m.site))) joined)
      (joined-in-step now m (here w) h.bases (moved now w h b.1 p)));
  joins_again = λ w h number m b p at acts. moved now w h b.1 p;
  uploads = λ w h number m b p at fine news. (let judge : PublisherJudge = by_past h (pasts_with h number) in let acts : List Act = acts_in publication says judge m w in
      same-bases now (taken_in publication judge m acts (here w)) h (Noting.with_acts_noted publication judge m acts (pasts_with h number) (here w) h) (upload-bases publication judge m acts (pasts_with h number) (here w) h)
      (taken-in-step now publication judge m acts (here w) h.bases (moved now w h b.1 p)));
  uploads_again = λ w h number m b p at none. moved now w h b.1 p;
  answers_ranges = λ w h site m b p. moved now w h b.1 p;
  answers_ask = λ w h number site m b p at fine. asked-in-step now m (here w) h.bases (moved now w h b.1 p);
  replies = λ w h s number m sent b p at there out none. same-bases now w.publisher h (Noting.noted_reply (by_made h s.site) s.site (pasts_with h number) m h) (taken-bases (by_history h) s.site (pasts_with h number) m (Some s) h) p;
}

abbrev pub ModelInStep : Model → Type 0
ModelInStep m = IsInStep m.world.moment.0 m.world.publisher m.history.bases

-- no step moves the moment back
moment-rises : (publication : Publication) (says : Saying) (m : Model) (action : Action) → m.world.moment.0 ≤ (model_step publication says m action).0.world.moment.0
moment-rises publication says m action = step-shaped publication says m.world m.history (λ (w : World) (h : History). m.world.moment.0 ≤ w.moment.0) (record {
  nothing = λ k. omega arith;
  passes = λ seconds k. omega arith;
  publisher = λ q k. omega arith;
  subscriber = λ t k. omega arith;
  asks = λ t site message k. omega arith;
  answers = λ q tallies site message k other. omega arith;
  ranges = λ number site message at. omega arith;
}) action

-- so what each way keeps at the moment before the step, holds at the one after it
pub in-step-step : (publication : Publication) (says : Saying) (m : Model) (action : Action) → Received m.world m.history → ModelInStep m → ModelInStep (model_step publication says m action).0
in-step-step publication says m action r fits =
    let n : Model = (model_step publication says m action).0 in
    let now : ℕ = m.world.moment.0 in
    passed-in-step now n.world.moment.0 n.world.publisher.latest.0 n.world.publisher.gens n.world.publisher.sites n.history.bases (moment-rises publication says m action)
    (step-keeps publication says (AtMoment now) (InStepAt now) (λ w h b. b.0) (in-step-keeps publication says now) m action (r, refl) fits)

begins : (publication : Publication) (tallies : List ℕ) → ModelInStep (empty_model publication tallies)
begins publication tallies = record { been = omega arith; closings = record { closed = tt; been = tt; rising = tt }; sites = λ n. tt }

pub in_step-by-actions : (publication : Publication) (says : Saying) (tallies : List ℕ) (slips : Slips) (actions : List Action) → ModelInStep (model_behind_actions publication says tallies slips actions)
in_step-by-actions publication says tallies slips actions =
    (failing-actions-keep publication (model publication says) (λ (m : Model). Received m.world m.history × ModelInStep m) (λ m action both. (model-fine publication says m action both.0, in-step-step publication says m action both.0 both.1))
    (λ m others both. (received-tallied m.world others m.history both.0, both.1)) actions (faulty (empty_model publication tallies) slips) (received-always publication says tallies [] [], begins publication tallies)).1

pub in_step-always : (publication : Publication) (says : Saying) (tallies : List ℕ) (slips : Slips) (events : List Event) → ModelInStep (model_behind publication says tallies slips events)
in_step-always publication says tallies slips events = of-events publication says tallies slips events (λ (m : Model). ModelInStep m) (in_step-by-actions publication says tallies slips)

-- What is old.

old-closed : (publication : Publication) (p : PublisherTables) (generation : ℕ) (found : Option ℕ) → moment_of p.gens.closings generation ≡ found
    → (let old : Bool = elim found [ None ↦ false | Some moment ↦ nat_lt moment (cutoff publication p).0 ] in old ≡ true)
    → (moment : ℕ) × (moment_of p.gens.closings generation ≡ Some moment) × (moment < (cutoff publication p).0)
old-closed publication p generation None at old = absurd (grind (arith, old))
old-closed publication p generation (Some moment) at old = (moment, at, grind (arith, nat_tests, old))

-- A generation above both would have closed since the site was in step, which was not so long ago. This takes no day of grace.
too-late : (generation watermark base last_sync moment now latest days grace : ℕ) → (watermark < generation → base < generation → last_sync ≤ moment) → nat_lt (86400 * days) (now - last_sync) ≡ false
    → moment < max now latest - (days * 86400 + grace) → latest ≤ now → nat_le generation watermark || nat_le generation base ≡ true
too-late generation watermark base last_sync moment now latest days grace since live old been = grind (arith, nat_tests, since, live, old, been)

state-past : (publication : Publication) (m : Model) (site : SiteId) (generation : ℕ) (found : Option SiteState) → at_number m.world.publisher.sites site.0 ≡ found → ModelInStep m
    → option_map_or (λ (state : SiteState). is_expired (record { 0 = state.last_sync }) m.world.moment publication.retention_days) found true ≡ false
    → is_old publication (at_moment m.world.moment m.world.publisher) generation ≡ true → IsPast m site generation
state-past publication m site generation None at fits live old = absurd (grind (arith, live))
state-past publication m site generation (Some state) at fits live old =
    let p : PublisherTables = m.world.publisher in
    let s : StateInStep p.latest.0 p.gens (base_of m.history site) state = subst (λ (o : Option SiteState). IfSome o (StateInStep p.latest.0 p.gens (base_of m.history site))) at (fits.sites site.0) in
    let closed = old-closed publication (at_moment m.world.moment p) generation (moment_of p.gens.closings generation) refl old in
    let since : state.watermark < generation → base_of m.history site < generation → state.last_sync ≤ closed.0 =
    found-at (λ (g : ℕ) (t : ℕ). state.watermark < g → base_of m.history site < g → state.last_sync ≤ t) generation closed.0 p.gens.closings s.since closed.1 in
    record {
      reached = ap (λ (found : Option SiteState). nat_le generation (unwrap_or found no_state).watermark || nat_le generation (base_of m.history site)) at
          ∙ too-late generation state.watermark (base_of m.history site) state.last_sync closed.0 m.world.moment.0 p.latest.0 publication.retention_days grace since live closed.2 fits.been;
    }

pub old-is-past : (publication : Publication) (m : Model) → ModelInStep m → OldIsPast publication m
old-is-past publication m fits site generation live old = state-past publication m site generation (at_number m.world.publisher.sites site.0) refl fits live old
