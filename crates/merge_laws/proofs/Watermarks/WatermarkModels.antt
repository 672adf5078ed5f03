-- Every step of the model keeps what the publisher takes sites to hold, and so does every list of events.
use Rattle.std.specs.Prelude.{◌≡◌, ◌≤◌, ◌<◌, ◌==◌, ◌+◌, ℕ, zero, suc, List, [], ◌∷◌, Bool, true, false, Option, Some, None, refl, IfSome, cond, map, nat_le, unwrap_or}
use Rattle.std.specs.BTreeMap.{is_at}
use Rattle.std.specs.Ordering.{nat_cmp}
use Rattle.std.specs.List.{AllByRecursion}
use Rattle.std.proofs.Common.{arith, subst, sym, ◌∙◌}
use Rattle.std.proofs.lemmas.Bool.Decides.{nat_tests}
use Rattle.merge_types.specs.declared.identifiers.Moment.{Moment}
use Rattle.merge_types.specs.declared.identifiers.SiteId.{SiteId}
use Rattle.merge_gens.specs.Retention.{is_expired}
use Rattle.merge_gens.specs.declared.sites.SiteState.{SiteState}
use Rattle.merge_schema.specs.declared.publication.Publication.{Publication}
use Rattle.merge_schema.specs.declared.publication.Subscription.{Subscription}
use Rattle.merge_batch.specs.declared.refusal.Refusal.{Refusal}
use Rattle.merge_batch.specs.declared.refusal.Refusal.TheVariants.{Expired, Stale}
use Rattle.merge_batch.specs.declared.request.Outstanding.TheVariants as ask
use Rattle.merge_batch.specs.declared.request.Join.{Join}
use Rattle.merge_batch.specs.declared.request.Upload.{Upload}
use Rattle.merge_batch.specs.declared.request.Download.{Download}
use Rattle.merge_batch.specs.declared.request.Request.TheVariants as request
use Rattle.merge_batch.specs.declared.reply.Reply.{Reply}
use Rattle.merge_batch.specs.declared.reply.Reply.TheVariants as reply
use Rattle.merge_model.specs.Failing.{Slips, faulty}
use Rattle.merge_model.specs.Failing.Runs.{model_behind, model_behind_actions}
use Rattle.merge_model.specs.declared.event.Event.{Event}
use Rattle.merge_model.specs.Tables.{PublisherTables, SubscriberTables}
use Rattle.merge_model.specs.Tables.Keys.{at_number, put_number}
use Rattle.merge_model.specs.Publisher.Acts.{Act}
use Rattle.merge_model.specs.Judge.{PublisherJudge, SubscriberJudge}
use Rattle.merge_model.specs.Tables.Refusals.{first_refusal, refused_if}
use Rattle.merge_model.specs.Tables.Publications.{by_site}
use Rattle.merge_model.specs.Publisher.{later, no_state, site_refusal, state_of, state_refusal, unknown_site}
use Rattle.merge_model.specs.Publisher.PublisherJoin.{join_acts, join_taken, joined_state, tables_after_join}
use Rattle.merge_model.specs.Publisher.PublisherUpload.{state_seeing, taken_in}
use Rattle.merge_model.specs.Publisher.PublisherDownload.{download_refusal, reply_to, state_after_download, tables_after_download}
use Rattle.merge_model.specs.Subscriber.{empty_subscriber, subscriber_at_moment, subscriber_closed, subscriber_made_locally}
use Rattle.merge_model.specs.Subscriber.Sending.{join_of, upload_end, upload_to, want_of, with_message}
use Rattle.merge_model.specs.Subscriber.Reinit.{result_of_reinit}
use Rattle.merge_model.specs.World.{Saying, World, letter_at, subscriber_at, with_publisher, with_subscriber}
use Rattle.merge_model.specs.declared.letter.Message.TheVariants.{Asks, Replies}
use Rattle.merge_model.specs.declared.letter.Letter.{Letter}
use Rattle.merge_model.specs.declared.letter.Message.{Message}
use Rattle.merge_model.specs.World.Steps.{Action, post}
use Rattle.merge_model.specs.History.{History, pasts_with}
use Rattle.merge_model.specs.History.Model.{Model, empty_model, model}
use Rattle.merge_model.specs.World.Events.{after}
use Rattle.merge_model.specs.Judge.ByHistory.{by_made, by_past}
use Rattle.merge_model.specs.Publisher.PublisherRanges.{plans, reply_to_ranges}
use Rattle.merge_model.specs.Subscriber.Taking.{seq_of, tables_after_reply}
use Rattle.merge_model.proofs.Runs.Actions.{failing-actions-keep}
use Rattle.merge_laws.proofs.Runs.Tallied.{received-tallied}
use Rattle.merge_laws.specs.Facts.Received.{joined_at, JoinFits, MessageFits, LetterFits, Received}
use Rattle.merge_laws.specs.Facts.Watermarks.{AskHolds, HoldsWatermark, HoldsWatermarks, LetterHolds, StateHolds, Watermarks, WatermarksAreHeld, state_in}
use Rattle.merge_model.proofs.Runs.Refusals.{first-none}
use Rattle.merge_model.proofs.Lists.Finding.{all-at, at_put_same}
use Rattle.merge_laws.proofs.Received.Models.{model-fine, received-always}
use Rattle.merge_laws.proofs.Purges.PurgeSteps.{if-entry, taken_entry}
use Rattle.merge_laws.proofs.Received.Subscribing.{number-decided}
use Rattle.merge_laws.proofs.Walking.{StepsKeep, acts_in, here, step-keeps, told_by}
use Rattle.merge_laws.proofs.Watermarks.WatermarkLists.{Moves, letter-more, site-moves, state-map, state-put, states-move}
use Rattle.merge_laws.proofs.Watermarks.WatermarkSites.{anew-moves, made-moves, quiet, sent-moves, taken-moves}
use Rattle.merge_laws.proofs.Runs.OfActions.{of-events}

-- what is known of a join, and of an ask that is not refused
join-seq : (m : Join) (joined : ℕ) (site : SiteId) (found : Option SubscriberTables) (s : SubscriberTables) → JoinFits joined site m found → found ≡ Some s → m.seq ≤ s.seq
join-seq m joined site None s fits is = absurd fits
join-seq m joined site (Some t) s fits is = (let same : t ≡ s = cc in subst (λ (x : SubscriberTables). m.seq ≤ x.seq) same fits.1)

two-none : (a b : Bool) (x y : Refusal) → first_refusal (refused_if a x ∷ refused_if b y ∷ []) ≡ None → b ≡ false
two-none true b x y e = absurd (grind (arith, e))
two-none false true x y e = absurd (grind (arith, e))
two-none false false x y e = refl

pub state-later : (publication : Publication) (seq : ℕ) (now : Moment) (found : Option SiteState) → state_refusal publication seq now found ≡ None → (unwrap_or found no_state).joined_at < seq
state-later publication seq now None e = absurd (grind (arith, e))
state-later publication seq now (Some state) e =
    let stale : nat_le seq state.joined_at ≡ false =
    two-none (is_expired (record { 0 = state.last_sync }) now publication.retention_days) (nat_le seq state.joined_at) (Expired (record { 0 = state.last_sync }) now) (Stale seq state.joined_at) e in
    grind (arith, nat_tests, stale)

ask-later : (publication : Publication) (now : Moment) (m : Download) (p : PublisherTables) → download_refusal publication now m p ≡ None → (state_in p.sites m.site.0).joined_at < m.seq
ask-later publication now m p e =
    let all = first-none (site_refusal publication m.site m.seq now p) _ e in
    let site = first-none (unknown_site publication m.site) _ all.0 in
    let state = first-none (state_refusal publication m.seq (later now p.latest) (at_number p.sites m.site.0)) [] site.1 in
    state-later publication m.seq (later now p.latest) (at_number p.sites m.site.0) state.0

-- what holds of every letter holds of one
pub pool-at : (P : Letter → Type 0) (w : World) (number : ℕ) (letter : Letter) → letter_at w number ≡ Some letter → AllByRecursion P w.pool → P letter
pool-at P w zero letter at all = absurd (grind (arith, at))
pool-at P w (suc k) letter at all = all-at P w.pool k letter at all

abbrev OfWorlds : World → History → Type 0
OfWorlds w h = HoldsWatermarks w

module _ (w : World) (k : HoldsWatermarks w) where
  abbrev states : List (ℕ × SiteState)
  states = w.publisher.sites

  -- a subscriber goes on
  module _ (s : SubscriberTables) (at : subscriber_at w s.site ≡ Some s) where
    abbrev state : SiteState
    state = state_in states s.site.0

    holds-here : StateHolds state s
    holds-here = subst (λ (o : Option SubscriberTables). IfSome o (StateHolds state)) at (k.sites s.site.0)

    go : (t : SubscriberTables) → Moves state s t → HoldsWatermarks (with_subscriber t w)
    go t moves = site-moves w.subscribers states w.pool s.site.0 s t at refl moves k

    -- with a letter of it
    sends : (t : SubscriberTables) (message : Message) → Moves state s t → LetterHolds (put_number w.subscribers t.site.0 t) states (record { site = s.site; message = message }) → HoldsWatermarks (post s.site message (with_subscriber t w)).0
    sends t message moves fits = letter-more (put_number w.subscribers t.site.0 t) states w.pool (record { site = s.site; message = message }) fits (go t moves)

    sends-ask : (let made : SubscriberTables × Download = (with_message (ask.Download s.watermark) s, record { site = s.site; seq = s.seq + 1; from = s.watermark }) in HoldsWatermarks (post s.site (Asks (request.Download made.1)) (with_subscriber made.0 w)).0)
    sends-ask =
        let t : SubscriberTables = with_message (ask.Download s.watermark) s in
        let m : Download = record { site = s.site; seq = s.seq + 1; from = s.watermark } in
        sends t (Asks (request.Download m)) (sent-moves state s holds-here (ask.Download s.watermark) s refl refl refl refl refl)
        (refl, subst (λ (o : Option SubscriberTables). IfSome o (AskHolds state.joined_at m)) (sym (at_put_same s.site.0 t w.subscribers)) (record { made = omega arith; low = λ later joins. omega arith }))

  -- the publisher goes on, and answers
  abbrev Stays : List (ℕ × SiteState) → Type 0
  Stays after = Watermarks w.subscribers after w.pool

  answers : (site : SiteId) (m : Reply) (q : PublisherTables) → Stays q.sites → HoldsWatermarks (post site (Replies m) (with_publisher q w)).0
  answers site m q stays = letter-more w.subscribers q.sites w.pool (record { site = site; message = Replies m }) tt stays

  -- joins
  joined-state : (m : Join) (s : SubscriberTables) (old : SiteState) → m.seq ≤ s.seq → StateHolds old s → StateHolds (joined_state m (here w).latest (state_of (here w) m.site)) s
  joined-state m s old made f = record { at = made; behind = λ joins. omega arith; anew = λ low. refl; asked = f.asked }

  abbrev Goes : ℕ → SiteState → Type 0
  Goes n state = (s : SubscriberTables) → at_number w.subscribers n ≡ Some s → StateHolds (state_in states n) s → StateHolds state s

  join-stays : (m : Join) → join_acts m w.publisher ≡ true → JoinFits (joined_at w.publisher m.site) m.site m (at_number w.subscribers m.site.0) → Stays (join_taken m (here w)).sites
  join-stays m acts fits =
      let new : SiteState = joined_state m (here w).latest (state_of (here w) m.site) in
      states-move w.subscribers states (put_number states m.site.0 new) w.pool
      (λ n. state-put Goes states m.site.0 new
      (λ s at f. joined-state m s (state_in states m.site.0) (join-seq m (joined_at w.publisher m.site) m.site (at_number w.subscribers m.site.0) s fits at) f) (λ j differs s at f. f) n (n == m.site.0) (number-decided n m.site.0))
      (λ n. state-put (λ (j : ℕ) (state : SiteState). (state_in states j).joined_at ≤ state.joined_at) states m.site.0 new (grind (arith, nat_tests, acts)) (λ j differs. omega arith) n (n == m.site.0) (number-decided n m.site.0)) k

  -- uploads
  taken-same : (field : SiteState → ℕ) (m : Upload) (acts : List Act) → ((state : SiteState) (seen : ℕ) → field (record state { seen = seen }) ≡ field state) → ((state : SiteState) → field (record state { received = m.to; received_number = m.through }) ≡ field state)
      → (n : ℕ) → field (state_in (map (taken_entry m) (map (state_seeing acts) states)) n) ≡ field (state_in states n)
  taken-same field m acts first second n =
      state-map field (taken_entry m)
      (λ e. if-entry (λ (x : ℕ × SiteState). x.0 ≡ e.0) (e.0 == m.site.0) (e.0, record e.1 { received = m.to; received_number = m.through }) e refl refl)
      (λ e. if-entry (λ (x : ℕ × SiteState). field x.1 ≡ field e.1) (e.0 == m.site.0) (e.0, record e.1 { received = m.to; received_number = m.through }) e (second e.1) refl) n (map (state_seeing acts) states)
      ∙ state-map field (state_seeing acts) (λ e. refl) (λ e. first e.1 _) n states

  upload-stays : (m : Upload) (acts : List Act) → Watermarks w.subscribers (map (taken_entry m) (map (state_seeing acts) states)) w.pool
  upload-stays m acts =
      let new : List (ℕ × SiteState) = map (taken_entry m) (map (state_seeing acts) states) in
      let joins : (n : ℕ) → (state_in new n).joined_at ≡ (state_in states n).joined_at = taken-same (λ (state : SiteState). state.joined_at) m acts (λ state seen. refl) (λ state. refl) in
      let marks : (n : ℕ) → (state_in new n).watermark ≡ (state_in states n).watermark = taken-same (λ (state : SiteState). state.watermark) m acts (λ state seen. refl) (λ state. refl) in
      states-move w.subscribers states new w.pool
      (λ n s at f. subst (λ (x : ℕ). HoldsWatermark (state_in new n).joined_at x s) (sym (marks n)) (subst (λ (x : ℕ). HoldsWatermark x (state_in states n).watermark s) (sym (joins n)) f))
      (λ n. omega (arith, joins n)) k

  -- asks
  synced-state : (m : Download) (s : SubscriberTables) (state : SiteState) → state.joined_at < m.seq → AskHolds state.joined_at m s → StateHolds state s → StateHolds (state_after_download m (here w) state) s
  synced-state m s state above a f = record {
    at = f.at;
    behind = λ joins. omega (arith, f.behind joins, a.low above joins);
    anew = λ low. absurd (omega (arith, low, above, a.made));
    asked = f.asked;
  }

  found-ask : (joined : ℕ) (m : Download) (found : Option SubscriberTables) (s : SubscriberTables) → IfSome found (AskHolds joined m) → found ≡ Some s → AskHolds joined m s
  found-ask joined m found s asks is = subst (λ (o : Option SubscriberTables). IfSome o (AskHolds joined m)) is asks

  ask-stays : (m : Download) → IfSome (at_number w.subscribers m.site.0) (AskHolds (state_in states m.site.0).joined_at m) → (state_in states m.site.0).joined_at < m.seq → Stays (tables_after_download m (here w)).sites
  ask-stays m asks above =
      let new : SiteState = state_after_download m (here w) (state_of (here w) m.site) in
      states-move w.subscribers states (put_number states m.site.0 new) w.pool
      (λ n. state-put Goes states m.site.0 new
      (λ s at f. synced-state m s (state_in states m.site.0) above (found-ask (state_in states m.site.0).joined_at m (at_number w.subscribers m.site.0) s asks at) f) (λ j differs s at f. f) n (n == m.site.0) (number-decided n m.site.0))
      (λ n. state-put (λ (j : ℕ) (state : SiteState). (state_in states j).joined_at ≤ state.joined_at) states m.site.0 new (omega arith) (λ j differs. omega arith) n (n == m.site.0) (number-decided n m.site.0)) k

module _ (publication : Publication) (says : Saying) where
  pub watermarks-keep : StepsKeep publication says Received OfWorlds
  watermarks-keep = record {
    moment = λ w h now r k. k;
    own_change = λ w h change d r k fine is. k;
    own_closing = λ w h r k. k;
    forgetting = λ w h r k. k;
    same = λ w h s r k at. go w k s at s (quiet (state w k s at) s (holds-here w k s at) s refl refl refl refl refl);
    subscriber_change = λ w h s change d r k at named fine is. go w k s at (subscriber_made_locally publication change d (subscriber_at_moment w.moment s)).0 (made-moves (state w k s at) s (holds-here w k s at) publication w.moment change d);
    subscriber_closing = λ w h s r k at. (let t : SubscriberTables = subscriber_closed (subscriber_at_moment w.moment s) in go w k s at t (quiet (state w k s at) s (holds-here w k s at) t refl refl refl refl refl));
    anew = λ w h s r k at. (let judge : SubscriberJudge = by_made h s.site in go w k s at (result_of_reinit judge (subscriber_at_moment w.moment s)).0 (anew-moves (state w k s at) s (holds-here w k s at) judge w.moment));
    sends_join = λ w h s r k at joining. sends w k s at (with_message ask.Join s) (Asks (request.Join (join_of s))) (sent-moves (state w k s at) s (holds-here w k s at) ask.Join s refl refl refl refl tt) tt;
    sends_upload = λ w h s r k at fine. (let c : SubscriberTables = subscriber_closed (subscriber_at_moment w.moment s) in let to : ℕ = upload_end (by_made h s.site) c in
        sends w k s at (with_message (ask.Upload c.received to) c) (Asks (request.Upload (upload_to (by_made h s.site) c to))) (sent-moves (state w k s at) s (holds-here w k s at) (ask.Upload c.received to) c refl refl refl refl tt) tt);
    sends_ranges = λ w h s r k at fine.
        sends w k s at (with_message ask.Ranges s) (Asks (request.Ranges (record { site = s.site; seq = s.seq + 1; wants = map want_of s.held }))) (sent-moves (state w k s at) s (holds-here w k s at) ask.Ranges s refl refl refl refl tt) tt;
    sends_ask = λ w h s r k at fine. sends-ask w k s at;
    joins = λ w h number m r k at fine acts.
        answers w k m.site (reply.Joined (record { seq = m.seq })) (join_taken m (here w)) (join-stays w k m acts (pool-at (LetterFits w.subscribers w.publisher) w number (record { site = m.site; message = Asks (request.Join m) }) at r.letters));
    joins_again = λ w h number m r k at acts. answers w k m.site (reply.Joined (record { seq = m.seq })) (here w) k;
    uploads = λ w h number m r k at fine news. (let judge : PublisherJudge = by_past h (pasts_with h number) in let acts : List Act = acts_in publication says judge m w in
        answers w k m.site (reply.Uploaded (told_by judge m)) (taken_in publication judge m acts (here w)) (upload-stays w k m acts));
    uploads_again = λ w h number m r k at none. answers w k m.site (reply.Uploaded (told_by (by_past h (pasts_with h number)) m)) (here w) k;
    answers_ranges = λ w h site m r k. answers w k site (reply.Ranged (reply_to_ranges m (plans publication m w.publisher))) (here w) k;
    answers_ask = λ w h number site m r k at fine. (let q : PublisherTables = tables_after_download m (here w) in
        let holds = pool-at (LetterHolds w.subscribers w.publisher.sites) w number (record { site = site; message = Asks (request.Download m) }) at k.letters in
        answers w k site (reply.Downloaded (reply_to publication (by_past h (pasts_with h number)) m q)) q
        (ask-stays w k m (subst (λ (x : SiteId). IfSome (at_number w.subscribers x.0) (AskHolds (state_in w.publisher.sites x.0).joined_at m)) (sym holds.0) holds.1) (ask-later publication w.moment m w.publisher fine)));
    replies = λ w h s number m sent r k at there out none. (let judge : SubscriberJudge = by_made h s.site in
        let fits = pool-at (LetterFits w.subscribers w.publisher) w number (record { site = s.site; message = Replies m }) there r.letters in
        go w k s at (tables_after_reply judge w.moment m s) (taken-moves (state w k s at) s (holds-here w k s at) publication judge w.moment (seq_of m) sent m
        (subst (λ (found : Option SubscriberTables). MessageFits (joined_at w.publisher s.site) s.site found (Replies m)) at fits) out (sym ((r.subscribers s.site.0 s at).last (seq_of m) sent out)) none));
  }

-- How it begins.

new-holds : (publication : Publication) (site : SiteId) → StateHolds no_state (empty_subscriber publication site)
new-holds publication site = record { at = omega arith; behind = λ joins. omega arith; anew = λ low. refl; asked = λ seq from e. absurd (grind (arith, e)) }

new-head : (P : SubscriberTables → Type 0) (b : Bool) (s : SubscriberTables) (rest : Option SubscriberTables) → P s → IfSome rest P → IfSome (cond b (Some s) rest) P
new-head P true s rest first second = first
new-head P false s rest first second = second

all-new : (publication : Publication) (entries : List (ℕ × Subscription)) (n : ℕ) → IfSome (at_number (map (λ (s : ℕ × Subscription). (s.0, empty_subscriber publication s.1.site)) entries) n) (StateHolds no_state)
all-new publication [] n = tt
all-new publication (entry ∷ entries) n =
    new-head (StateHolds no_state) (is_at (nat_cmp n) entry.0) (empty_subscriber publication entry.1.site) (at_number (map (λ (s : ℕ × Subscription). (s.0, empty_subscriber publication s.1.site)) entries) n)
    (new-holds publication entry.1.site) (all-new publication entries n)

pub watermarks-by-actions : (publication : Publication) (says : Saying) (tallies : List ℕ) (slips : Slips) (actions : List Action)
    → (let m : Model = model_behind_actions publication says tallies slips actions in HoldsWatermarks m.world)
watermarks-by-actions publication says tallies slips actions =
    (failing-actions-keep publication (model publication says) (λ (m : Model). Received m.world m.history × HoldsWatermarks m.world)
    (λ m action both. (model-fine publication says m action both.0, step-keeps publication says Received OfWorlds (λ w h r. r) (watermarks-keep publication says) m action both.0 both.1)) (λ m others both. (received-tallied m.world others m.history both.0, both.1)) actions (faulty (empty_model publication tallies) slips) (
      received-always publication says tallies [] [],
      record { sites = λ n. all-new publication (by_site publication) n; letters = tt },
    )).1

pub watermarks-always : (publication : Publication) (says : Saying) (tallies : List ℕ) (slips : Slips) (events : List Event)
    → (let m : Model = model_behind publication says tallies slips events in HoldsWatermarks m.world)
watermarks-always publication says tallies slips events = of-events publication says tallies slips events (λ (m : Model). HoldsWatermarks m.world) (watermarks-by-actions publication says tallies slips)

pub watermarks-held : (m : Model) → Received m.world m.history → HoldsWatermarks m.world → WatermarksAreHeld m
watermarks-held m r k n s at joins =
    let f : StateHolds (state_in m.world.publisher.sites n) s = subst (λ (o : Option SubscriberTables). IfSome o (StateHolds (state_in m.world.publisher.sites n))) at (k.sites n) in
    subst (λ (j : ℕ). (state_in m.world.publisher.sites j).watermark ≤ s.watermark) (sym (r.subscribers n s at).keyed) (f.behind joins)
