-- A site that is not expired stays so within a session: each request leaves when it was last in step, or raises it, and a join makes it now.
use Rattle.std.specs.BTreeMap.{is_at}
use Rattle.std.specs.Ordering.{nat_cmp}
use Rattle.std.specs.Prelude.{Bool, Err, IfOk, List, None, Ok, Option, Result, Some, [], cond, false, if◌then◌else◌, length, map, max, nat_lt, refl, true, unwrap_or, ℕ, ◌*◌, ◌+◌, ◌-◌, ◌==◌, ◌≡◌, ◌≤◌, ◌∷◌}
use Rattle.std.proofs.Common.{ap, arith, subst, sym, ◌∙◌}
use Rattle.std.proofs.lemmas.Bool.Decides.{nat_tests}
use Rattle.merge_types.specs.declared.changes.Change.{Change}
use Rattle.merge_types.specs.declared.identifiers.Moment.{Moment}
use Rattle.merge_types.specs.declared.identifiers.SiteId.{SiteId}
use Rattle.merge_gens.specs.Retention.{is_expired}
use Rattle.merge_gens.specs.declared.sites.SiteState.{SiteState}
use Rattle.merge_schema.specs.declared.publication.Publication.{Publication}
use Rattle.merge_batch.specs.declared.refusal.Refusal.{Refusal}
use Rattle.merge_batch.specs.declared.refusal.Refusal.TheVariants.{UnknownSite}
use Rattle.merge_batch.specs.declared.reply.Joined.{Joined}
use Rattle.merge_batch.specs.declared.reply.Reply.TheVariants as reply
use Rattle.merge_batch.specs.declared.request.Download.{Download}
use Rattle.merge_batch.specs.declared.request.Join.{Join}
use Rattle.merge_batch.specs.declared.request.Outstanding.TheVariants as ask
use Rattle.merge_batch.specs.declared.request.Request.{Request}
use Rattle.merge_batch.specs.declared.request.Request.TheVariants as request
use Rattle.merge_batch.specs.declared.request.Upload.{Upload}
use Rattle.merge_model.specs.Publisher.PublisherRanges.{ranges}
use Rattle.merge_model.specs.Subscriber.Taking.{take_reply}
use Rattle.merge_batch.specs.declared.request.RangeAsk.{RangeAsk}
use Rattle.merge_model.specs.Publisher.Acts.{Act, acts_of}
use Rattle.merge_model.specs.Judge.ByHistory.{by_history, by_made, by_past}
use Rattle.merge_model.specs.History.{History, pasts_with}
use Rattle.merge_model.specs.Judge.{PublisherJudge, SubscriberJudge}
use Rattle.merge_model.specs.Tables.Keys.{at_number, put_number}
use Rattle.merge_model.specs.History.Model.{Model, model, model_step}
use Rattle.merge_model.specs.History.Noting
use Rattle.merge_model.specs.Publisher.{at_moment, later, no_state, state_of}
use Rattle.merge_model.specs.Publisher.PublisherDownload.{download, in_step, state_after_download, tables_after_download}
use Rattle.merge_model.specs.Publisher.PublisherJoin.{join, join_acts, join_refusal, join_taken, joined_state, tables_after_join}
use Rattle.merge_model.specs.Publisher.PublisherLocal.{Drawn, draw_for_change, made_locally}
use Rattle.merge_model.specs.Publisher.PublisherUpload.{state_seeing, taken_in, upload}
use Rattle.merge_model.specs.Tables.Refusals.{counter_end}
use Rattle.merge_model.specs.Subscriber.Sending.{join_made, join_of, make_ask, make_join, make_ranges, make_upload, with_message}
use Rattle.merge_model.specs.World.Session.{ask as asking}
use Rattle.merge_model.specs.World.Steps.{Action, Deliver, Send, SendDownload, SendJoin, SendRanges, SendUpload, Sending, deliver_letter, deliver_reply, deliver_request, kept_decisions, post, post_if_made, send_from, step_by, unless_refused, upload_questions}
use Rattle.merge_model.specs.Subscriber.{subscriber_counters}
use Rattle.merge_model.specs.Tables.{PublisherTables, SubscriberTables}
use Rattle.merge_model.specs.World.{Judges, Saying, World, letter_at, subscriber_at, with_publisher, with_subscriber}
use Rattle.merge_model.specs.declared.letter.Letter.{Letter}
use Rattle.merge_model.specs.declared.letter.Message.{Message}
use Rattle.merge_model.specs.declared.letter.Message.TheVariants.{Asks, Replies}
use Rattle.merge_model.specs.declared.outcome.Outcome.{Outcome}
use Rattle.merge_model.specs.declared.outcome.Outcome.TheVariants.{NoLetter, Refuses}
use Rattle.merge_model.proofs.Lists.Finding.{at_put_other, at_put_same}
use Rattle.merge_model.proofs.Publishers.PublisherSteps.{step-holds}
use Rattle.merge_model.proofs.Publishers.{close-ok, download-ok, join-ok, local-ok, ranges-ok, upload-ok}
use Rattle.merge_laws.proofs.Runs.Ground.{Ground}
use Rattle.merge_laws.proofs.Purges.PurgeSteps.{if-entry, taken_entry}
use Rattle.merge_laws.proofs.Sessions.SessionSteps.{After, Answered, Sent, back-step, comes-step, post-step, posted_model, reply-step, send-step, unless-step}
use Rattle.merge_laws.proofs.Settled.SettledExpired.{expired_in}
use Rattle.merge_laws.proofs.Settled.SettledWorlds.{if-found}
use Rattle.merge_laws.proofs.Received.Subscribing.{number-decided, same_number}
use Rattle.merge_laws.proofs.Walking.{here}
use Rattle.merge_laws.specs.Facts.Purges.{StateInStep, base_in}
use Rattle.merge_honest.proofs.SessionRequests.{InTime}

-- The publisher was in step with a site no earlier than this.

abbrev Synced : ℕ → Option SiteState → Type 0
Synced low None = ⊥
Synced low (Some state) = low ≤ state.last_sync

abbrev IsSynced : ℕ → ℕ → PublisherTables → Type 0
IsSynced n low p = (low ≤ p.latest.0) × Synced low (at_number p.sites n)

entry-synced : (low : ℕ) (b : Bool) (first second : SiteState) (rest more : Option SiteState) → first.last_sync ≡ second.last_sync → (Synced low rest → Synced low more)
    → Synced low (let found : Option SiteState = cond b (Some first) rest in found) → Synced low (let found : Option SiteState = cond b (Some second) more in found)
entry-synced low true first second rest more same each up = omega (arith, same, up)
entry-synced low false first second rest more same each up = each up

synced-map : (low : ℕ) (f : ℕ × SiteState → ℕ × SiteState) → ((e : ℕ × SiteState) → (f e).0 ≡ e.0) → ((e : ℕ × SiteState) → e.1.last_sync ≡ (f e).1.last_sync) → (n : ℕ) (es : List (ℕ × SiteState)) → Synced low (at_number es n) → Synced low (at_number (map f es) n)
synced-map low f named same n [] up = up
synced-map low f named same n (e ∷ es) up =
    subst (λ (k : ℕ). Synced low (let found : Option SiteState = cond (is_at (nat_cmp n) k) (Some (f e).1) (at_number (map f es) n) in found)) (sym (named e))
    (entry-synced low (is_at (nat_cmp n) e.0) e.1 (f e).1 (at_number es n) (at_number (map f es) n) (same e) (synced-map low f named same n es) up)

synced-put : (low site n : ℕ) (state : SiteState) (es : List (ℕ × SiteState)) (b : Bool) → same_number n site b → (n ≡ site → low ≤ state.last_sync) → Synced low (at_number es n) → Synced low (at_number (put_number es site state) n)
synced-put low site n state es true same new up = subst (Synced low) (sym (ap (λ (k : ℕ). at_number (put_number es site state) k) same ∙ at_put_same site state es)) (new same)
synced-put low site n state es false differs new up = subst (Synced low) (sym (at_put_other site n state es differs)) up

state-synced : (low : ℕ) (found : Option SiteState) → Synced low found → low ≤ (unwrap_or found no_state).last_sync
state-synced low None up = absurd up
state-synced low (Some state) up = up

later-up : (low now latest : ℕ) → low ≤ latest → low ≤ max now latest
later-up low now latest up = grind (arith, nat_tests, up)

raised-up : (low last more : ℕ) → low ≤ last → low ≤ max last more
raised-up low last more up = grind (arith, nat_tests, up)

module _ (publication : Publication) (n low : ℕ) where
  abbrev Q : PublisherTables → Type 0
  Q p = IsSynced n low p

  now-synced : (now : Moment) (p : PublisherTables) → Q p → Q (at_moment now p)
  now-synced now p k = (later-up low now.0 p.latest.0 k.0, k.1)

  drawn-synced : (judge : PublisherJudge) (now : Moment) (change : Change) (p : PublisherTables) (draw : Result Drawn Refusal) → Q p → IfOk draw (λ d. Q (made_locally publication judge change d (at_moment now p)).0)
  drawn-synced judge now change p (Err refusal) k = tt
  drawn-synced judge now change p (Ok d) k = now-synced now p k

  taken-synced : (judge : PublisherJudge) (m : Upload) (acts : List Act) (p : PublisherTables) → Q p → Q (taken_in publication judge m acts p)
  taken-synced judge m acts p k = (
    k.0,
    synced-map low (taken_entry m)
        (λ e. if-entry (λ (x : ℕ × SiteState). x.0 ≡ e.0) (e.0 == m.site.0) (e.0, record e.1 { received = m.to; received_number = m.through }) e refl refl)
        (λ e. if-entry (λ (x : ℕ × SiteState). e.1.last_sync ≡ x.1.last_sync) (e.0 == m.site.0) (e.0, record e.1 { received = m.to; received_number = m.through }) e refl refl)
        n (map (state_seeing acts) p.sites) (synced-map low (state_seeing acts) (λ e. refl) (λ e. refl) n p.sites k.1),
  )

  joined-synced : (m : Join) (p : PublisherTables) → Q p → Q (join_taken m p)
  joined-synced m p k = (k.0, synced-put low m.site.0 n (joined_state m p.latest (state_of p m.site)) p.sites (n == m.site.0) (number-decided n m.site.0) (λ same. k.0) k.1)

  asked-synced : (m : Download) (p : PublisherTables) → Q p → Q (tables_after_download m p)
  asked-synced m p k = (
    k.0,
    synced-put low m.site.0 n (state_after_download m p (state_of p m.site)) p.sites (n == m.site.0) (number-decided n m.site.0)
        (λ same. raised-up low (state_of p m.site).last_sync (in_step m p) (subst (λ (x : ℕ). low ≤ (unwrap_or (at_number p.sites x) no_state).last_sync) same (state-synced low (at_number p.sites n) k.1))) k.1,
  )

  step-synced : (says : Saying) (judges : Judges) (w : World) (action : Action) → Q w.publisher → Q (step_by publication says judges w action).0.publisher
  step-synced says judges w action k = step-holds publication Q
      (λ judge now change p q. local-ok Q publication judge now change p (drawn-synced judge now change p (draw_for_change publication p change) q))
      (λ now p q. close-ok Q now p (now-synced now p q))
      (λ now m p q. join-ok Q publication now m p (joined-synced m (at_moment now p) (now-synced now p q)) (now-synced now p q))
      (λ judge now m decisions p q. upload-ok Q publication judge now m decisions p (taken-synced judge m (acts_of judge m decisions (at_moment now p)) (at_moment now p) (now-synced now p q)) (now-synced now p q))
      (λ judge now m p q. ranges-ok Q publication judge now m p (now-synced now p q))
      (λ judge now m p q. download-ok Q publication judge now m p (asked-synced m (at_moment now p) (now-synced now p q)))
      (λ now p q. now-synced now p q)
      says judges w action k

-- The moment stays.

module _ (publication : Publication) (says : Saying) (judges : Judges) (w : World) where
  abbrev Stays : World × Outcome → Type 0
  Stays done = done.0.moment ≡ w.moment

  unless-stays : {A : Type 0} (done : Result A Refusal) (act : A → World × Outcome) → ((a : A) → Stays (act a)) → Stays (unless_refused w done act)
  unless-stays (Err refusal) act each = refl
  unless-stays (Ok a) act each = each a

  found-stays : (site : SiteId) (found : Option SubscriberTables) (act : SubscriberTables → World × Outcome) → ((s : SubscriberTables) → Stays (act s))
      → (let done : World × Outcome = elim found [ None ↦ (w, Refuses (UnknownSite site)) | Some s ↦ act s ] in Stays done)
  found-stays site None act each = refl
  found-stays site (Some s) act each = each s

  posted-stays : {A : Type 0} (site : SiteId) (message : A → Request) (made : Option (SubscriberTables × A)) → Stays (post_if_made site message w made)
  posted-stays site message None = refl
  posted-stays site message (Some made) = refl

  send-stays : (sending : Sending) (s : SubscriberTables) → Stays (send_from judges sending w s)
  send-stays SendJoin s = unless-stays (make_join s) _ (λ made. posted-stays s.site (λ (m : Join). request.Join m) made)
  send-stays SendUpload s = unless-stays (make_upload (judges.subscriber s.site s) w.moment s) _ (λ made. posted-stays s.site (λ (m : Upload). request.Upload m) made)
  send-stays SendRanges s = unless-stays (make_ranges s) _ (λ made. posted-stays s.site (λ (m : RangeAsk). request.Ranges m) made)
  send-stays SendDownload s = unless-stays (make_ask s) _ (λ made. refl)

  request-stays : (judge : PublisherJudge) (site : SiteId) (r : Request) → Stays (deliver_request publication says judge site r w)
  request-stays judge site (request.Join m) = unless-stays (join publication w.moment m w.publisher) _ (λ made. refl)
  request-stays judge site (request.Upload m) = unless-stays (upload publication judge w.moment m (kept_decisions says w.tallies (upload_questions publication judge w.moment m w.publisher)) w.publisher) _ (λ made. refl)
  request-stays judge site (request.Ranges m) = unless-stays (ranges publication judge w.moment m w.publisher) _ (λ made. refl)
  request-stays judge site (request.Download m) = unless-stays (download publication judge w.moment m w.publisher) _ (λ made. refl)

  message-stays : (number : ℕ) (site : SiteId) (message : Message) → (let letter : Letter = record { site = site; message = message } in Stays (deliver_letter publication says judges number w letter))
  message-stays number site (Asks r) = request-stays (judges.publisher number) site r
  message-stays number site (Replies r) = found-stays site (subscriber_at w site) (deliver_reply publication judges r w) (λ s. unless-stays (take_reply publication (judges.subscriber s.site s) w.moment r s) _ (λ made. refl))

  letter-stays : (number : ℕ) (found : Option Letter) → (let done : World × Outcome = elim found [ None ↦ (w, NoLetter) | Some letter ↦ deliver_letter publication says judges number w letter ] in Stays done)
  letter-stays number None = refl
  letter-stays number (Some letter) = message-stays number letter.site letter.message

  sent-stays : (site : SiteId) (sending : Sending) → Stays (step_by publication says judges w (Send site sending))
  sent-stays site sending = found-stays site (subscriber_at w site) (send_from judges sending w) (λ s. send-stays sending s)

  delivered-stays : (number : ℕ) → Stays (step_by publication says judges w (Deliver number))
  delivered-stays number = letter-stays number (letter_at w number)

-- So a site that is not expired stays so.

still-live : (limit now low last : ℕ) → low ≤ last → nat_lt limit (now - low) ≡ false → nat_lt limit (now - last) ≡ false
still-live limit now low last up live = grind (arith, nat_tests, up, live)

live-by : (publication : Publication) (now : Moment) (low : ℕ) (found : Option SiteState) → is_expired (record { 0 = low }) now publication.retention_days ≡ false → Synced low found → expired_in publication now found ≡ false
live-by publication now low None live up = absurd up
live-by publication now low (Some state) live up = still-live (86400 * publication.retention_days) now.0 low state.last_sync up live

module _ (publication : Publication) (says : Saying) (site : SiteId) (k : Model) (g : Ground publication k.world k.history) where
  live-step : (action : Action) (found : Option SiteState) → at_number k.world.publisher.sites site.0 ≡ found → expired_in publication k.world.moment found ≡ false → (model_step publication says k action).0.world.moment ≡ k.world.moment
      → InTime publication says site (model_step publication says k action).0
  live-step action None at live same = absurd cc
  live-step action (Some state) at live same =
      let base : ℕ = base_in k.history.bases site.0 in
      let been = (if-found (StateInStep k.world.publisher.latest.0 k.world.publisher.gens base) (at_number k.world.publisher.sites site.0) state at (g.in_step.sites site.0)).been in
      let begins : Synced state.last_sync (at_number k.world.publisher.sites site.0) = subst (Synced state.last_sync) (sym at) (let up : state.last_sync ≤ state.last_sync = omega arith in up) in
      let after = step-synced publication site.0 state.last_sync says (by_history k.history) k.world action (been, begins) in
      subst (λ (now : Moment). expired_in publication now (at_number (model_step publication says k action).0.world.publisher.sites site.0) ≡ false) (sym same)
      (live-by publication k.world.moment state.last_sync (at_number (model_step publication says k action).0.world.publisher.sites site.0) live after.1)

pub in-time-send : (publication : Publication) (says : Saying) (site : SiteId) (k : Model) (other : SiteId) (sending : Sending) → Ground publication k.world k.history → InTime publication says site k → InTime publication says site (model_step publication says k (Send other sending)).0
in-time-send publication says site k other sending g live = live-step publication says site k g (Send other sending) (at_number k.world.publisher.sites site.0) refl live (sent-stays publication says (by_history k.history) k.world other sending)

pub in-time-deliver : (publication : Publication) (says : Saying) (site : SiteId) (k : Model) (number : ℕ) → Ground publication k.world k.history → InTime publication says site k → InTime publication says site (model_step publication says k (Deliver number)).0
in-time-deliver publication says site k number g live = live-step publication says site k g (Deliver number) (at_number k.world.publisher.sites site.0) refl live (delivered-stays publication says (by_history k.history) k.world number)

-- A join makes its site one that is not expired.

now-live : (limit now latest : ℕ) → nat_lt limit (now - max now latest) ≡ false
now-live limit now latest = grind (arith, nat_tests)

joined-live : (publication : Publication) (now : Moment) (a : Join) (p : PublisherTables) (b : Bool) → b ≡ true → (let q : PublisherTables = if b then join_taken a (at_moment now p) else at_moment now p in expired_in publication now (at_number q.sites a.site.0) ≡ false)
joined-live publication now a p true acts =
    ap (λ (found : Option SiteState). expired_in publication now found) (at_put_same a.site.0 (joined_state a (later now p.latest) (state_of (at_moment now p) a.site)) p.sites)
    ∙ now-live (86400 * publication.retention_days) now.0 p.latest.0
joined-live publication now a p false acts = absurd cc

module _ (publication : Publication) (says : Saying) (m : Model) (s : SubscriberTables) (at : subscriber_at m.world s.site ≡ Some s) (behind : (state_of m.world.publisher s.site).joined_at ≤ s.seq) where
  pub join-times : s.is_joined ≡ false → Answered publication says (InTime publication says s.site) (λ k. ⊥) s.site (asking (model publication says) s.site SendJoin m)
  join-times joining =
      let w : World = m.world in
      let h : History = m.history in
      let Acts : Model → Type 0 = InTime publication says s.site in
      let Rests : Model → Type 0 = λ k. ⊥ in
      let u : SubscriberTables = with_message ask.Join s in
      let a : Join = join_of s in
      let v : World = with_subscriber u w in
      let k : Model = posted_model s.site (Asks (request.Join a)) v h in
      let judge : PublisherJudge = by_past k.history (pasts_with k.history (length v.pool + 1)) in
      let q : PublisherTables = tables_after_join a (here k.world) in
      let d : Joined = record { seq = a.seq } in
      let x : World = with_publisher q k.world in
      let noting : History = Noting.noted_join judge a w.publisher k.history in
      let n : Model = posted_model s.site (Replies (reply.Joined d)) x noting in
      let own : SubscriberJudge = by_made n.history s.site in
      let there : subscriber_at v s.site ≡ Some u = at_put_same s.site.0 u w.subscribers in
      let act : Option (SubscriberTables × Join) → World × Outcome = post_if_made s.site (λ (y : Join). request.Join y) w in
      let acts : join_acts a (here w) ≡ true = grind (arith, nat_tests, behind) in
      send-step publication says Acts Rests s.site m s SendJoin at
      (unless-step (Sent publication says Acts Rests s.site) w h (λ why. tt) (counter_end (subscriber_counters s)) (join_made s) act h (λ fine.
      subst (λ (b : Bool). (let made : Option (SubscriberTables × Join) = if b then None else Some (u, a) in After (Sent publication says Acts Rests s.site) (act made) h h)) (sym joining)
      (post-step (Sent publication says Acts Rests s.site) s.site (Asks (request.Join a)) v h h
      (comes-step publication says Acts Rests s.site (Answered publication says Acts Rests s.site) s.site (Asks (request.Join a)) v h
      (unless-step (Answered publication says Acts Rests s.site) k.world k.history (λ why. tt) (join_refusal publication a w.publisher) (q, d) (λ (made : PublisherTables × Joined). post s.site (Replies (reply.Joined made.1)) (with_publisher made.0 k.world)) noting (λ taken_in.
      post-step (Answered publication says Acts Rests s.site) s.site (Replies (reply.Joined d)) x noting k.history
      (back-step publication says Acts Rests s.site x noting u (reply.Joined d) there
      (reply-step publication says Acts Rests s.site n.world n.history own u (reply.Joined d) ask.Join n.history (λ none. joined-live publication w.moment a w.publisher (join_acts a (here w)) acts)))))))))
