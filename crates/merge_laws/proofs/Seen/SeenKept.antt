-- Every step keeps that the publisher has met of each site just what it accepted and received.
use Rattle.std.specs.Prelude.{◌≡◌, ◌==◌, ◌+◌, ℕ, List, [], true, None, refl, flat_map, is_some, map, max}
use Rattle.std.specs.List.{fold}
use Rattle.std.proofs.Common.{arith, subst, sym, ap, ◌∙◌}
use Rattle.merge_types.specs.declared.identifiers.Dot.{Dot}
use Rattle.merge_gens.specs.declared.sites.SiteState.{SiteState}
use Rattle.merge_schema.specs.declared.publication.Publication.{Publication}
use Rattle.merge_batch.specs.declared.request.Download.{Download}
use Rattle.merge_model.specs.Judge.ByHistory.{by_made, by_past}
use Rattle.merge_model.specs.History.{History, Line, no_history, pasts_with}
use Rattle.merge_model.specs.Judge.{PublisherJudge}
use Rattle.merge_model.specs.Tables.Keys.{at_number}
use Rattle.merge_model.specs.History.Model.{Model, model_step}
use Rattle.merge_model.specs.History.Noting
use Rattle.merge_model.specs.Tables.Publications.{by_site}
use Rattle.merge_model.specs.Publisher.{last_closed, later, state_of, state_refusal, unknown_site, site_refusal}
use Rattle.merge_model.specs.Publisher.PublisherDownload.{download_refusal, state_after_download, tables_after_download}
use Rattle.merge_model.specs.Publisher.PublisherLocal.{next_dot}
use Rattle.merge_model.specs.Subscriber.Reinit.{discarded_versions}
use Rattle.merge_model.specs.World.Steps.{Action}
use Rattle.merge_types.specs.declared.row_key.RowKey.{RowKey as Key}
use Rattle.merge_model.specs.World.{Saying, World, empty_world}
use Rattle.merge_laws.specs.Facts.LineagesStand.{AllTold, Owns}
use Rattle.merge_laws.specs.Invariants.Seen.{Seen, greatest_in}
use Rattle.merge_model.proofs.Runs.Refusals.{first-none, state-known}
use Rattle.merge_model.proofs.Lists.Finding.{at_put_other}
use Rattle.merge_laws.proofs.Runs.Ground.{Ground}
use Rattle.merge_laws.proofs.Walking.NotesLeave.{discarded-leave, fold-leave, lines-accepted, reply-leave}
use Rattle.merge_laws.proofs.Received.Publishing.{asked-number}
use Rattle.merge_laws.proofs.Seen.SeenUploads.{join-seen, upload-seen}
use Rattle.merge_laws.proofs.Received.Subscribing.{number-decided}
use Rattle.merge_laws.proofs.Walking.{StepsKeep, here, step-keeps}

-- what is known besides: the ground, what every version tells, and what is known of own changes
abbrev pub ToldGround : Publication → World → History → Type 0
ToldGround publication w h = Ground publication w h × (AllTold (record { world = w; history = h }) × Owns (record { world = w; history = h }))

abbrev pub HasSeen : World → History → Type 0
HasSeen w h = Seen w.publisher.sites h.accepted

-- What leaves the accepted changes.

seen-as : (sites : List (ℕ × SiteState)) (before after : List Dot) → after ≡ before → Seen sites before → Seen sites after
seen-as sites before after same seen = subst (λ (accepted : List Dot). Seen sites accepted) (sym same) seen

-- An ask moves neither number.

site-there : (sites : List (ℕ × SiteState)) (n : ℕ) → at_number sites 0 ≡ None → is_some (at_number sites n) ≡ true → 0 ≡ n → ⊥
site-there sites n none there zero_is = absurd (grind (arith, ap (λ (k : ℕ). is_some (at_number sites k)) zero_is, none, there))

asked-seen : (publication : Publication) (w : World) (h : History) (m : Download) → download_refusal publication w.moment m w.publisher ≡ None → HasSeen w h → Seen (tables_after_download m (here w)).sites h.accepted
asked-seen publication w h m fine seen =
    let all = first-none (site_refusal publication m.site m.seq w.moment w.publisher) _ fine in
    let site = first-none (unknown_site publication m.site) _ all.0 in
    let state = first-none (state_refusal publication m.seq (later w.moment w.publisher.latest) (at_number w.publisher.sites m.site.0)) [] site.1 in
    let there : is_some (at_number w.publisher.sites m.site.0) ≡ true = state-known publication m.seq (later w.moment w.publisher.latest) (at_number w.publisher.sites m.site.0) state.0 in record {
      own = at_put_other m.site.0 0 (state_after_download m (here w) (state_of (here w) m.site)) w.publisher.sites (site-there w.publisher.sites m.site.0 seen.own there) ∙ seen.own;
      numbers = λ n from. asked-number (λ (x : SiteState). x.seen) refl m (here w) n (n == m.site.0) refl (number-decided n m.site.0) ∙ seen.numbers n from
          ∙ ap (λ (k : ℕ). max (greatest_in h.accepted n) k) (sym (asked-number (λ (x : SiteState). x.received_number) refl m (here w) n (n == m.site.0) refl (number-decided n m.site.0)));
    }

module _ (publication : Publication) (says : Saying) where
  pub seen-keeps : StepsKeep publication says (ToldGround publication) HasSeen
  seen-keeps = record {
    moment = λ w h now b seen. seen;
    own_change = λ w h change d b seen fine is. (let judge : PublisherJudge = by_past h (pasts_with h 0) in
        seen-as w.publisher.sites h.accepted _ (lines-accepted (Noting.lines_of_entries (last_closed (here w) + 1) (Noting.drawn_entries publication judge change (here w) d))
        (Noting.with_change publication (next_dot (here w)) (last_closed (here w) + 1) change d.value h)) seen);
    own_closing = λ w h b seen. seen;
    forgetting = λ w h b seen. (let judge : PublisherJudge = by_past h (pasts_with h 0) in
        let keys : List Key = Noting.old_tombstones publication (here w) in
        let lines : List Line = map (Noting.gone_line (last_closed (here w) + 1)) (flat_map (Noting.old_left publication judge (here w)) (map Noting.site_of_subscription (by_site publication))) in
        seen-as w.publisher.sites h.accepted _ (lines-accepted lines (fold Noting.with_purged h keys) ∙ fold-leave (λ (x : History). x.accepted) Noting.with_purged (λ x key. refl) keys h) seen);
    same = λ w h s b seen at. seen;
    subscriber_change = λ w h s change d b seen at named fine is. seen;
    subscriber_closing = λ w h s b seen at. seen;
    anew = λ w h s b seen at. seen-as w.publisher.sites h.accepted _ (discarded-leave (λ (x : History). x.accepted) (λ x lost. refl) s.site (discarded_versions (by_made h s.site) s) h) seen;
    sends_join = λ w h s b seen at joining. seen;
    sends_upload = λ w h s b seen at fine. seen;
    sends_ranges = λ w h s b seen at fine. seen;
    sends_ask = λ w h s b seen at fine. seen;
    joins = λ w h number m b seen at fine acts. join-seen publication w h b.0 seen number m at acts (pasts_with h number);
    joins_again = λ w h number m b seen at acts. seen;
    uploads = λ w h number m b seen at fine news. upload-seen publication says w h b.0 b.1.0 b.1.1 seen number m at fine news;
    uploads_again = λ w h number m b seen at none. seen;
    answers_ranges = λ w h site m b seen. seen;
    answers_ask = λ w h number site m b seen at fine. asked-seen publication w h m fine seen;
    replies = λ w h s number m sent b seen at there out none. seen-as w.publisher.sites h.accepted _ (reply-leave (λ (x : History). x.accepted) (λ x pasts. refl) (by_made h s.site) s.site (pasts_with h number) m h) seen;
  }

  pub seen-step : (m : Model) (action : Action) → Ground publication m.world m.history → AllTold m → Owns m → HasSeen m.world m.history → (let n : Model = (model_step publication says m action).0 in HasSeen n.world n.history)
  seen-step m action g told owns seen = step-keeps publication says (ToldGround publication) HasSeen (λ w h b. b.0.received) seen-keeps m action (g, (told, owns)) seen

pub seen-begins : (publication : Publication) (tallies : List ℕ) → HasSeen (empty_world publication tallies) no_history
seen-begins publication tallies = record { own = refl; numbers = λ n from. refl }
