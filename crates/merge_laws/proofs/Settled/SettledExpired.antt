-- Where a site is not expired after a step, it was not before it.
use Rattle.std.specs.Prelude.{◌≡◌, ◌≤◌, ◌-◌, ◌*◌, ◌==◌, ℕ, List, [], ◌∷◌, Bool, true, false, Option, Some, None, refl, cond, map, nat_le, nat_lt}
use Rattle.std.specs.BTreeMap.{is_at}
use Rattle.std.specs.Option.{option_map_or}
use Rattle.std.specs.Ordering.{nat_cmp}
use Rattle.std.proofs.Common.{arith, sym, ap, ◌∙◌}
use Rattle.std.proofs.lemmas.Bool.Decides.{nat_tests}
use Rattle.merge_types.specs.declared.identifiers.Moment.{Moment}
use Rattle.merge_gens.specs.Retention.{is_expired}
use Rattle.merge_gens.specs.declared.sites.SiteState.{SiteState}
use Rattle.merge_schema.specs.declared.publication.Publication.{Publication}
use Rattle.merge_batch.specs.declared.refusal.Refusal.TheVariants.{Expired, Stale, WrongWatermark}
use Rattle.merge_batch.specs.declared.request.Download.{Download}
use Rattle.merge_batch.specs.declared.request.Join.{Join}
use Rattle.merge_batch.specs.declared.request.Upload.{Upload}
use Rattle.merge_model.specs.Publisher.Acts.{Act}
use Rattle.merge_model.specs.Judge.{PublisherJudge}
use Rattle.merge_model.specs.Tables.Keys.{at_number}
use Rattle.merge_model.specs.Publisher.{last_closed, later, site_refusal, state_of, state_refusal, unknown_site}
use Rattle.merge_model.specs.Publisher.PublisherDownload.{download_refusal, state_after_download, tables_after_download}
use Rattle.merge_model.specs.Publisher.PublisherJoin.{join_taken, joined_state}
use Rattle.merge_model.specs.Publisher.PublisherUpload.{state_seeing, taken_in}
use Rattle.merge_model.specs.Tables.Refusals.{refused_if}
use Rattle.merge_model.specs.Tables.{PublisherTables}
use Rattle.merge_model.specs.World.{World}
use Rattle.merge_laws.specs.Facts.Settled.{is_expired_by}
use Rattle.merge_laws.proofs.Received.Arrivals.{not-refused}
use Rattle.merge_model.proofs.Runs.Refusals.{first-none}
use Rattle.merge_model.proofs.Lists.Finding.{at_put_other}
use Rattle.merge_laws.proofs.Purges.PurgeSteps.{if-entry, taken_entry}
use Rattle.merge_laws.proofs.Received.Subscribing.{same_number}
use Rattle.merge_laws.proofs.Walking.{here}

abbrev pub expired_in : Publication → Moment → Option SiteState → Bool
expired_in publication now found = option_map_or (λ (state : SiteState). is_expired (record { 0 = state.last_sync }) now publication.retention_days) found true

still-expired : (limit last before after : ℕ) → before ≤ after → nat_lt limit (after - last) ≡ false → nat_lt limit (before - last) ≡ false
still-expired limit last before after up live = grind (arith, nat_tests, up, live)

-- the moment only rises
pub expired-later : (publication : Publication) (before after : Moment) (found : Option SiteState) → before.0 ≤ after.0 → expired_in publication after found ≡ false → expired_in publication before found ≡ false
expired-later publication before after None up live = absurd (grind (arith, live))
expired-later publication before after (Some state) up live = still-expired (86400 * publication.retention_days) state.last_sync before.0 after.0 up live

pub later-up : (now before : Moment) → before.0 ≤ (later now before).0
later-up now before = grind (arith, nat_tests)

-- the states of the sites may differ in all but the moment of the last ask
entry-step : (publication : Publication) (now : Moment) (b : Bool) (first second : SiteState) (rest more : Option SiteState) → first.last_sync ≡ second.last_sync → expired_in publication now rest ≡ expired_in publication now more
    → expired_in publication now (let found : Option SiteState = cond b (Some first) rest in found) ≡ expired_in publication now (let found : Option SiteState = cond b (Some second) more in found)
entry-step publication now true first second rest more same h = ap (λ (last : ℕ). is_expired (record { 0 = last }) now publication.retention_days) same
entry-step publication now false first second rest more same h = h

expired-map : (publication : Publication) (now : Moment) (f : ℕ × SiteState → ℕ × SiteState) → ((e : ℕ × SiteState) → (f e).0 ≡ e.0) → ((e : ℕ × SiteState) → (f e).1.last_sync ≡ e.1.last_sync) → (n : ℕ) (es : List (ℕ × SiteState))
    → expired_in publication now (at_number (map f es) n) ≡ expired_in publication now (at_number es n)
expired-map publication now f named same n [] = refl
expired-map publication now f named same n (e ∷ es) =
    ap (λ (k : ℕ). expired_in publication now (let found : Option SiteState = cond (is_at (nat_cmp n) k) (Some (f e).1) (at_number (map f es) n) in found)) (named e)
    ∙ entry-step publication now (is_at (nat_cmp n) e.0) (f e).1 e.1 (at_number (map f es) n) (at_number es n) (same e) (expired-map publication now f named same n es)

-- what a request of a site is refused for
state-live : (publication : Publication) (seq : ℕ) (now : Moment) (found : Option SiteState) → state_refusal publication seq now found ≡ None → expired_in publication now found ≡ false
state-live publication seq now None e = absurd (grind (arith, e))
state-live publication seq now (Some state) e =
    let expired : Bool = is_expired (record { 0 = state.last_sync }) now publication.retention_days in
    not-refused expired (Expired (record { 0 = state.last_sync }) now) (first-none (refused_if expired (Expired (record { 0 = state.last_sync }) now)) (refused_if (nat_le seq state.joined_at) (Stale seq state.joined_at) ∷ []) e).0

pub ask-live : (publication : Publication) (now : Moment) (m : Download) (p : PublisherTables) → download_refusal publication now m p ≡ None → expired_in publication (later now p.latest) (at_number p.sites m.site.0) ≡ false
ask-live publication now m p e =
    let all = first-none (site_refusal publication m.site m.seq now p) _ e in
    let site = first-none (unknown_site publication m.site) _ all.0 in
    let state = first-none (state_refusal publication m.seq (later now p.latest) (at_number p.sites m.site.0)) [] site.1 in
    state-live publication m.seq (later now p.latest) (at_number p.sites m.site.0) state.0

-- an ask begins at a closed generation
pub ask-begins : (publication : Publication) (now : Moment) (m : Download) (p : PublisherTables) → download_refusal publication now m p ≡ None → m.from ≤ last_closed p
ask-begins publication now m p e =
    let all = first-none (site_refusal publication m.site m.seq now p) _ e in
    let begins : nat_lt (last_closed p) m.from ≡ false = not-refused (nat_lt (last_closed p) m.from) (WrongWatermark m.from (last_closed p)) (first-none (refused_if (nat_lt (last_closed p) m.from) (WrongWatermark m.from (last_closed p))) _ all.1).0 in
    grind (arith, nat_tests, begins)

module _ (publication : Publication) (w : World) where
  abbrev p : PublisherTables
  p = w.publisher

  abbrev now : Moment
  now = later w.moment p.latest

  pub live-here : (n : ℕ) → is_expired_by publication (here w) n ≡ false → is_expired_by publication p n ≡ false
  live-here n live = expired-later publication p.latest now (at_number p.sites n) (later-up w.moment p.latest) live

  pub live-uploaded : (judge : PublisherJudge) (m : Upload) (acts : List Act) (n : ℕ) → is_expired_by publication (taken_in publication judge m acts (here w)) n ≡ false → is_expired_by publication p n ≡ false
  live-uploaded judge m acts n live = live-here n (
      sym (expired-map publication now (taken_entry m)
      (λ e. if-entry (λ (x : ℕ × SiteState). x.0 ≡ e.0) (e.0 == m.site.0) (e.0, record e.1 { received = m.to; received_number = m.through }) e refl refl)
      (λ e. if-entry (λ (x : ℕ × SiteState). x.1.last_sync ≡ e.1.last_sync) (e.0 == m.site.0) (e.0, record e.1 { received = m.to; received_number = m.through }) e refl refl) n (map (state_seeing acts) p.sites)
      ∙ expired-map publication now (state_seeing acts) (λ e. refl) (λ e. refl) n p.sites)
      ∙ live)

  pub live-asked : (m : Download) (n : ℕ) (b : Bool) → same_number n m.site.0 b → download_refusal publication w.moment m p ≡ None → is_expired_by publication (tables_after_download m (here w)) n ≡ false → is_expired_by publication p n ≡ false
  live-asked m n true same fine live = live-here n (ap (λ (k : ℕ). expired_in publication now (at_number p.sites k)) same ∙ ask-live publication w.moment m p fine)
  live-asked m n false differs fine live = live-here n (ap (λ (found : Option SiteState). expired_in publication now found) (sym (at_put_other m.site.0 n (state_after_download m (here w) (state_of (here w) m.site)) p.sites differs)) ∙ live)

  pub live-joined : (m : Join) (n : ℕ) → (n ≡ m.site.0 → ⊥) → is_expired_by publication (join_taken m (here w)) n ≡ false → is_expired_by publication p n ≡ false
  live-joined m n differs live = live-here n (ap (λ (found : Option SiteState). expired_in publication now found) (sym (at_put_other m.site.0 n (joined_state m now (state_of (here w) m.site)) p.sites differs)) ∙ live)
