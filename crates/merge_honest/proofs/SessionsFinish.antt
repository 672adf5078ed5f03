-- A session ends with nothing refused, or for a counter's end or too many rows: exchange by exchange.
use Rattle.std.specs.Prelude.{Bool, None, Option, Some, false, if◌then◌else◌, nat_le, option_map, refl, suc, true, unwrap_or, zero, ℕ, ◌+◌, ◌-◌, ◌≡◌, ◌≤◌}
use Rattle.std.proofs.Common.{ap, subst, sym, ◌∙◌}
use Rattle.merge_types.specs.declared.identifiers.SiteId.{SiteId}
use Rattle.merge_schema.specs.Places.{is_subscription}
use Rattle.merge_schema.specs.Valid.{IsValid}
use Rattle.merge_schema.specs.declared.publication.Publication.{Publication}
use Rattle.merge_batch.specs.declared.refusal.Refusal.{Refusal}
use Rattle.merge_batch.specs.declared.reply.Downloaded.{Downloaded}
use Rattle.merge_model.specs.History.Model.{Model, model, model_step}
use Rattle.merge_model.specs.Failing.Runs.{model_behind}
use Rattle.merge_model.specs.World.Session.{Session, after_download, all_downloads, all_ranges, all_uploads, answered_as, as_it_is, ask, downloaded_in, downloads_up_to, exchange, has_grant, is_joined_in, join_if_due, last_message, range_asks, range_requests_up_to, session, session_after_reply, then_deliver, unless_stopped, unsent_generations, uploads_up_to, with_answer, with_download, with_upload}
use Rattle.merge_model.specs.World.Steps.{Deliver, Send, SendDownload, SendJoin, SendRanges, SendUpload, Sending}
use Rattle.merge_model.specs.Tables.{SubscriberTables}
use Rattle.merge_model.specs.Publisher.{state_of}
use Rattle.merge_model.specs.World.{Saying, World, subscriber_at}
use Rattle.merge_model.specs.Tables.Keys.{at_number}
use Rattle.merge_model.specs.declared.outcome.Outcome.{Outcome}
use Rattle.merge_model.specs.declared.outcome.Outcome.TheVariants.{NoPost, Posted, Refuses, Took}
use Rattle.merge_laws.specs.Laws.{OfEveryValidRun}
use Rattle.merge_laws.proofs.Runs.Ground.{Ground}
use Rattle.merge_laws.proofs.Sessions.SessionExchanges.{DownloadLeaves, JoinLeaves, RangesLeave, UploadLeaves, UploadRests, download-leaves, join-leaves, ranges-leave, upload-leaves}
use Rattle.merge_laws.proofs.Sessions.SessionLaw.{At, ends-here, own, same-site}
use Rattle.merge_laws.proofs.Sessions.SessionSteps.{Answered, Ends}
use Rattle.merge_laws.proofs.Settled.SettledWorlds.{if-found}
use Rattle.merge_laws.specs.Facts.Watermarks.{StateHolds, state_in}
use Rattle.merge_honest.specs.Finished.{EndsBy, EndsFor, SessionFinishes}
use Rattle.merge_honest.specs.Replied.{NoReplyIsRefused}
use Rattle.merge_honest.specs.Taken.{HonestAreTaken}
use Rattle.merge_honest.proofs.BehindRuns.{IsBehind, deliver-behind, law-behind, run-behind, send-behind}
use Rattle.merge_honest.proofs.SentWell.{Whole, sent-well-always}
use Rattle.merge_honest.proofs.SessionRequests.{Asked, InTime, Replied, deliver-ends, deliver-replied, download-asked, join-asked, ranges-asked, upload-asked}
use Rattle.merge_honest.proofs.SessionTimes.{in-time-deliver, in-time-send, join-times}

-- what is asked of the laws
pub record Laws : Type 0 where
  pub taken : OfEveryValidRun HonestAreTaken
  pub replies : OfEveryValidRun NoReplyIsRefused

whole-law : OfEveryValidRun (λ (publication : Publication) (says : Saying) (m : Model). Whole publication m)
whole-law resolvers publication valid says tallies slips events = sent-well-always publication says tallies slips events (resolvers, valid)

module _ (publication : Publication) (says : Saying) (resolvers : ℕ) (valid : IsValid resolvers publication) (laws : Laws) (site : SiteId) where
  abbrev step : Model → Sending → Model × Outcome
  step k sending = model_step publication says k (Send site sending)

  whole : (k : Model) → IsBehind publication says k → Whole publication k
  whole k b = law-behind publication says resolvers valid (λ (p : Publication) (says : Saying) (m : Model). Whole p m) whole-law k b

  ground : (k : Model) → IsBehind publication says k → Ground publication k.world k.history
  ground k b = (whole k b).0.0

  -- the site's tables, with what is known of them
  abbrev at_here : (k : Model) (b : IsBehind publication says k) (s : SubscriberTables) → subscriber_at k.world site ≡ Some s → At publication says site k
  at_here k b s here = record { tables = s; known = ((ground k b).received, (ground k b).numbered); here = here }

  subscribes : (k : Model) (b : IsBehind publication says k) (s : SubscriberTables) → subscriber_at k.world site ≡ Some s → is_subscription publication site.0 ≡ true
  subscribes k b s here = ((whole k b).1.known site.0 s here).subscribes

  -- its last join is none that it made later
  joins-behind : (k : Model) (b : IsBehind publication says k) (s : SubscriberTables) → subscriber_at k.world site ≡ Some s → (state_of k.world.publisher site).joined_at ≤ s.seq
  joins-behind k b s here = (if-found (StateHolds (state_in k.world.publisher.sites site.0)) (at_number k.world.subscribers site.0) s here ((ground k b).watermarks.sites site.0)).at

  -- A message of the site comes to the publisher, and its reply is not refused.

  abbrev Fine : Model × Outcome → Type 0
  Fine (n, Posted number) = (why : Refusal) → (model_step publication says n (Deliver number)).1 ≡ Refuses why → ⊥
  Fine (n, Refuses why) = EndsFor n site why
  Fine (n, outcome) = Unit {0}

  replied-fine : (done : Model × Outcome) → IsBehind publication says done.0 → Replied publication says site done → ((why : Refusal) → done.1 ≡ Refuses why → EndsFor done.0 site why) → Fine done
  replied-fine (n, Posted number) b replied ends = λ why e. law-behind publication says resolvers valid NoReplyIsRefused laws.replies n b number site replied.0 why replied.1 e
  replied-fine (n, Refuses why) b replied ends = ends why refl
  replied-fine (n, outcome) b replied ends = tt

  made-fine : (done : Model × Outcome) → IsBehind publication says done.0 → Asked publication says site done → Fine (then_deliver (model publication says) site done)
  made-fine (k, Posted number) b fresh =
      replied-fine (model_step publication says k (Deliver number)) (deliver-behind publication says k number b) (deliver-replied publication says k number site fresh.sent fresh.at)
      (λ why e. deliver-ends publication says k number site (ground k b).in_step.been (law-behind publication says resolvers valid HonestAreTaken laws.taken k b) fresh.sent why fresh.at fresh.last fresh.fresh e)
  made-fine (k, Refuses why) b ends = ends
  made-fine (k, outcome) b asked = tt

  -- what steps keep, a message that comes keeps
  then-behind : (done : Model × Outcome) → IsBehind publication says done.0 → IsBehind publication says (then_deliver (model publication says) site done).0
  then-behind (k, Posted number) b = deliver-behind publication says k number b
  then-behind (k, outcome) b = b

  -- How a session stands: nothing ended it and this holds, or it ended well.
  abbrev Stands : (Model → Type 0) → Model → Option Refusal → Type 0
  Stands Q k None = Q k
  Stands Q k (Some why) = EndsFor k site why

  abbrev Standing : (Model → Type 0) → Session Model → Type 0
  Standing Q u = Stands Q u.world u.stop

  goes-on : (Q : Model → Type 0) (k : Model) (stop : Option Refusal) → stop ≡ None → Q k → Stands Q k stop
  goes-on Q k stop none holds = subst (Stands Q k) (sym none) holds

  module _ (P Acts Rests Q : Model → Type 0) (of_deliver : (k : Model) (number : ℕ) → P k → P (model_step publication says k (Deliver number)).0) where
    arrived-stands : (v : Session Model) (done : Model × Outcome) (next : Session Model → Session Model) → v.stop ≡ None → P done.0 → Ends Acts Rests done → ((why : Refusal) → done.1 ≡ Refuses why → ⊥)
        → ((x : Session Model) → x.stop ≡ None → P x.world → Acts x.world → Standing Q (next x)) → ((k : Model) → P k → Rests k → Q k) → Standing Q (session_after_reply (model publication says) site next v done)
    arrived-stands v (k, Took taken) next none p ends never acts rests = acts (record v { world = k }) none p ends
    arrived-stands v (k, Refuses why) next none p ends never acts rests = absurd (never why refl)
    arrived-stands v (k, NoPost) next none p ends never acts rests = goes-on Q k v.stop none (rests k p ends)
    arrived-stands v (k, outcome) next none p ends never acts rests = absurd ends

    answered-stands : (u : Session Model) (done : Model × Outcome) (counted next : Session Model → Session Model) → ((v : Session Model) → (counted v).stop ≡ v.stop) → u.stop ≡ None → P done.0 → Answered publication says Acts Rests site done → Fine done
        → ((x : Session Model) → x.stop ≡ None → P x.world → Acts x.world → Standing Q (next x)) → ((k : Model) → P k → Rests k → Q k) → Standing Q (answered_as (model publication says) site counted next u done)
    answered-stands u (k, Posted number) counted next same none p ends fine acts rests =
        arrived-stands (counted (record u { world = k })) (model_step publication says k (Deliver number)) next (same (record u { world = k }) ∙ none) (of_deliver k number p) ends fine acts rests
    answered-stands u (k, Refuses why) counted next same none p ends fine acts rests = fine
    answered-stands u (k, NoPost) counted next same none p ends fine acts rests = goes-on Q k u.stop none (rests k p ends)
    answered-stands u (k, outcome) counted next same none p ends fine acts rests = absurd ends

  -- A site that has joined and is not expired, behind a run.

  abbrev Keeps : Model → Type 0
  Keeps k = IsBehind publication says k × InTime publication says site k

  keeps-deliver : (k : Model) (number : ℕ) → Keeps k → Keeps (model_step publication says k (Deliver number)).0
  keeps-deliver k number p = (deliver-behind publication says k number p.0, in-time-deliver publication says site k number (ground k p.0) p.1)

  keeps-then : (done : Model × Outcome) → Keeps done.0 → Keeps (then_deliver (model publication says) site done).0
  keeps-then (k, Posted number) p = keeps-deliver k number p
  keeps-then (k, outcome) p = p

  record Ready (k : Model) : Type 0 where
    pub keeps : Keeps k
    pub tables : SubscriberTables
    pub here : subscriber_at k.world site ≡ Some tables
    pub joined : tables.is_joined ≡ true

  abbrev ready_at : (k : Model) → Ready k → At publication says site k
  ready_at k r = at_here k r.keeps.0 r.tables r.here

  keeps-asked : (k : Model) (r : Ready k) (sending : Sending) → Keeps (ask (model publication says) site sending k).0
  keeps-asked k r sending = keeps-then (step k sending) (send-behind publication says k site sending (subscribes k r.keeps.0 r.tables r.here) r.keeps.0, in-time-send publication says site k site sending (ground k r.keeps.0) r.keeps.1)

  -- facts of the tables' own site are of this one
  of-own : (k : Model) (r : Ready k) (F : SiteId → Type 0) → F r.tables.site → F site
  of-own k r F holds = subst F (same-site publication says site k (ready_at k r)) holds

  exchange-stands : (Acts Rests : Model → Type 0) (sending : Sending) (u : Session Model) (r : Ready u.world) (counted next : Session Model → Session Model) → ((v : Session Model) → (counted v).stop ≡ v.stop) → u.stop ≡ None
      → Answered publication says Acts Rests r.tables.site (ask (model publication says) r.tables.site sending u.world) → Asked publication says site (step u.world sending)
      → ((x : Session Model) → x.stop ≡ None → Keeps x.world → Acts x.world → Standing Ready (next x)) → ((k : Model) → Keeps k → Rests k → Ready k) → Standing Ready (exchange (model publication says) site sending counted next u)
  exchange-stands Acts Rests sending u r counted next same none ends asked acts rests =
      answered-stands Keeps Acts Rests Ready keeps-deliver u (ask (model publication says) site sending u.world) counted next same none (keeps-asked u.world r sending)
      (ends-here publication says site Acts Rests sending u.world (ready_at u.world r) ends)
      (made-fine (step u.world sending) (send-behind publication says u.world site sending (subscribes u.world r.keeps.0 r.tables r.here) r.keeps.0) asked) acts rests

  next-here : (k n : Model) (r : Ready k) (t : SubscriberTables) → subscriber_at n.world r.tables.site ≡ Some t → subscriber_at n.world site ≡ Some t
  next-here k n r t found = of-own k r (λ (x : SiteId). subscriber_at n.world x ≡ Some t) found

  own-here : (k : Model) (r : Ready k) → subscriber_at k.world r.tables.site ≡ Some r.tables
  own-here k r = own publication says site k (ready_at k r)

  own-behind : (k : Model) (r : Ready k) → (state_of k.world.publisher r.tables.site).joined_at ≤ r.tables.seq
  own-behind k r = subst (λ (x : SiteId). (state_of k.world.publisher x).joined_at ≤ r.tables.seq) (sym (same-site publication says site k (ready_at k r))) (joins-behind k r.keeps.0 r.tables r.here)

  own-time : (k : Model) (r : Ready k) → InTime publication says r.tables.site k
  own-time k r = subst (λ (x : SiteId). InTime publication says x k) (sym (same-site publication says site k (ready_at k r))) r.keeps.1

  asked-here : (k : Model) (r : Ready k) (sending : Sending) → Asked publication says r.tables.site (model_step publication says k (Send r.tables.site sending)) → Asked publication says site (step k sending)
  asked-here k r sending asked = of-own k r (λ (x : SiteId). Asked publication says x (model_step publication says k (Send x sending))) asked

  -- Uploads.
  uploading-stands : (count : ℕ) (u : Session Model) → u.stop ≡ None → Ready u.world → Standing Ready (uploads_up_to (model publication says) site count u)
  uploading-stands zero u none r = goes-on Ready u.world u.stop none r
  uploading-stands (suc count) u none r =
      let k : Model = u.world in
      let s : SubscriberTables = r.tables in
      let g : Ground publication k.world k.history = ground k r.keeps.0 in
      exchange-stands (UploadLeaves k s) (UploadRests s) SendUpload u r (with_upload (model publication says) site) (uploads_up_to (model publication says) site count) (λ v. refl) none
      (upload-leaves publication says k s (own-here k r) (g.received.subscribers site.0 s r.here).own (g.numbered.subscribers s.site.0 s (own-here k r)).named)
      (asked-here k r SendUpload (upload-asked publication says k s (own-here k r) (own-behind k r) r.joined (own-time k r)))
      (λ x ended p l. uploading-stands count x ended (record { keeps = p; tables = l.tables; here = next-here k x.world r l.tables l.here; joined = l.joined ∙ r.joined }))
      (λ n p l. record { keeps = p; tables = s; here = next-here k n r s l.here; joined = r.joined })

  uploads-stand : (u : Session Model) → u.stop ≡ None → Ready u.world → Standing Ready (all_uploads (model publication says) site u)
  uploads-stand u none r = uploading-stands (unsent_generations (model publication says) site u.world) u none r

  if-stands : (Q : Model → Type 0) (b : Bool) (x y : Session Model) → Standing Q x → Standing Q y → Standing Q (if b then x else y)
  if-stands Q true x y one other = one
  if-stands Q false x y one other = other

  -- Ranges.
  asking-stands : (count : ℕ) (u : Session Model) → u.stop ≡ None → Ready u.world → Standing Ready (range_requests_up_to (model publication says) site count u)
  asking-stands zero u none r = goes-on Ready u.world u.stop none r
  asking-stands (suc count) u none r =
      let k : Model = u.world in
      let s : SubscriberTables = r.tables in
      let next : Session Model → Session Model = λ (t : Session Model). if has_grant (model publication says) site (last_message (model publication says) site t.world) then range_requests_up_to (model publication says) site count t else t in
      exchange-stands (RangesLeave k s) (λ n. (n.world ≡ k.world) × (n.history ≡ k.history)) SendRanges u r (as_it_is (model publication says) site) next (λ v. refl) none
      (ranges-leave publication says k s (own-here k r))
      (asked-here k r SendRanges (ranges-asked publication says k s (own-here k r) (own-behind k r) r.joined (own-time k r)))
      (λ x ended p l. (let more : Ready x.world = record { keeps = p; tables = l.tables; here = next-here k x.world r l.tables l.here; joined = l.joined ∙ r.joined } in
      if-stands Ready (has_grant (model publication says) site (last_message (model publication says) site x.world)) (range_requests_up_to (model publication says) site count x) x (asking-stands count x ended more) (goes-on Ready x.world x.stop ended more)))
      (λ n p l. record { keeps = p; tables = s; here = ap (λ (v : World). subscriber_at v site) l.0 ∙ r.here; joined = r.joined })

  ranges-stand : (u : Session Model) → u.stop ≡ None → Ready u.world → Standing Ready (all_ranges (model publication says) site u)
  ranges-stand u none r = asking-stands (range_asks (model publication says) site u.world) u none r

  -- Downloads.
  fetched-stands : (next : Downloaded → Session Model → Session Model) (u : Session Model) (found : Option Downloaded) → Standing Ready u → ((d : Downloaded) → Standing Ready (next d u))
      → Standing Ready (let v : Session Model = elim found [ None ↦ u | Some d ↦ next d u ] in v)
  fetched-stands next u None here more = here
  fetched-stands next u (Some d) here more = more d

  counted-same : (v : Session Model) → (with_answer (model publication says) site v).stop ≡ v.stop
  counted-same v = by (downloaded_in (model publication says) site (last_message (model publication says) site v.world))
    where
      by : (found : Option Downloaded) → (let t : Session Model = elim found [ None ↦ v | Some d ↦ with_download (model publication says) site d v ] in t.stop) ≡ v.stop
      by None = refl
      by (Some d) = refl

  download-stands : (u : Session Model) (next : Downloaded → Session Model → Session Model) → u.stop ≡ None → Ready u.world → ((d : Downloaded) (x : Session Model) → x.stop ≡ None → Ready x.world → Standing Ready (next d x))
      → Standing Ready (exchange (model publication says) site SendDownload (with_answer (model publication says) site) (after_download (model publication says) site next) u)
  download-stands u next none r more =
      let k : Model = u.world in
      let s : SubscriberTables = r.tables in
      exchange-stands (DownloadLeaves publication k s) (λ n. ⊥) SendDownload u r (with_answer (model publication says) site) (after_download (model publication says) site next) counted-same none
      (download-leaves publication says k s (own-here k r))
      (asked-here k r SendDownload (download-asked publication says k s (own-here k r) (own-behind k r) r.joined (own-time k r)))
      (λ x ended p l. (let there : Ready x.world = record { keeps = p; tables = l.tables; here = next-here k x.world r l.tables l.here; joined = l.joined ∙ r.joined } in
      fetched-stands next x (downloaded_in (model publication says) site (last_message (model publication says) site x.world)) (goes-on Ready x.world x.stop ended there) (λ d. more d x ended there)))
      (λ n p never. absurd never)

  downloading-stands : (count target : ℕ) (u : Session Model) → u.stop ≡ None → Ready u.world → Standing Ready (downloads_up_to (model publication says) site count target u)
  downloading-stands zero target u none r = goes-on Ready u.world u.stop none r
  downloading-stands (suc count) target u none r = download-stands u (λ (d : Downloaded) (t : Session Model). if nat_le target d.from then t else downloads_up_to (model publication says) site count target t) none r
      (λ d x ended more. if-stands Ready (nat_le target d.from) x (downloads_up_to (model publication says) site count target x) (goes-on Ready x.world x.stop ended more) (downloading-stands count target x ended more))

  downloads-stand : (u : Session Model) → u.stop ≡ None → Ready u.world → Standing Ready (all_downloads (model publication says) site u)
  downloads-stand u none r = download-stands u (λ (d : Downloaded) (t : Session Model). if nat_le d.last d.from then t else downloads_up_to (model publication says) site (d.last + 1 - d.from) d.last t) none r
      (λ d x ended more. if-stands Ready (nat_le d.last d.from) x (downloads_up_to (model publication says) site (d.last + 1 - d.from) d.last x) (goes-on Ready x.world x.stop ended more) (downloading-stands (d.last + 1 - d.from) d.last x ended more))

  -- The join.
  joined-is : (k : Model) (s : SubscriberTables) (b : Bool) → subscriber_at k.world site ≡ Some s → is_joined_in (model publication says) site k ≡ b → s.is_joined ≡ b
  joined-is k s b here is = sym (ap (λ (found : Option SubscriberTables). unwrap_or (option_map (λ (x : SubscriberTables). x.is_joined) found) true) here) ∙ is

  both-ends : (First Second : Model → Type 0) (done : Model × Outcome) → Ends First (λ k. ⊥) done → Ends Second (λ k. ⊥) done → Ends (λ k. First k × Second k) (λ k. ⊥) done
  both-ends First Second (k, Took taken) one other = (one, other)
  both-ends First Second (k, Refuses why) one other = tt
  both-ends First Second (k, NoPost) one other = one
  both-ends First Second (k, outcome) one other = absurd one

  both-answered : (First Second : Model → Type 0) (done : Model × Outcome) → Answered publication says First (λ k. ⊥) site done → Answered publication says Second (λ k. ⊥) site done → Answered publication says (λ k. First k × Second k) (λ k. ⊥) site done
  both-answered First Second (k, Posted number) one other = both-ends First Second (model_step publication says k (Deliver number)) one other
  both-answered First Second (k, Refuses why) one other = tt
  both-answered First Second (k, NoPost) one other = one
  both-answered First Second (k, outcome) one other = absurd one

  join-stands : (u : Session Model) (s : SubscriberTables) → u.stop ≡ None → IsBehind publication says u.world → subscriber_at u.world.world site ≡ Some s → s.is_joined ≡ false
      → Standing Ready (exchange (model publication says) site SendJoin (as_it_is (model publication says) site) (as_it_is (model publication says) site) u)
  join-stands u s none b here unjoined =
      let k : Model = u.world in
      let a : At publication says site k = at_here k b s here in
      let sites : s.site ≡ site = same-site publication says site k a in
      let there : subscriber_at k.world s.site ≡ Some s = own publication says site k a in
      let behind : (state_of k.world.publisher s.site).joined_at ≤ s.seq = subst (λ (x : SiteId). (state_of k.world.publisher x).joined_at ≤ s.seq) (sym sites) (joins-behind k b s here) in
      let sent : IsBehind publication says (step k SendJoin).0 = send-behind publication says k site SendJoin (subscribes k b s here) b in
      answered-stands (IsBehind publication says) (λ n. JoinLeaves s n × InTime publication says site n) (λ n. ⊥) Ready (deliver-behind publication says) u (ask (model publication says) site SendJoin k)
      (as_it_is (model publication says) site) (as_it_is (model publication says) site) (λ v. refl) none (then-behind (step k SendJoin) sent)
      (both-answered (JoinLeaves s) (InTime publication says site) (ask (model publication says) site SendJoin k)
      (ends-here publication says site (JoinLeaves s) (λ n. ⊥) SendJoin k a (join-leaves publication says k s there unjoined))
      (subst (λ (x : SiteId). Answered publication says (InTime publication says x) (λ n. ⊥) x (ask (model publication says) x SendJoin k)) sites (join-times publication says k s there behind unjoined)))
      (made-fine (step k SendJoin) sent (subst (λ (x : SiteId). Asked publication says x (model_step publication says k (Send x SendJoin))) sites (join-asked publication says k s there behind unjoined)))
      (λ x ended p l. goes-on Ready x.world x.stop ended (record { keeps = (p, l.1); tables = l.0.tables; here = subst (λ (y : SiteId). subscriber_at x.world.world y ≡ Some l.0.tables) sites l.0.here; joined = l.0.joined }))
      (λ n p never. absurd never)

  joining-stands : (u : Session Model) (s : SubscriberTables) → u.stop ≡ None → IsBehind publication says u.world → subscriber_at u.world.world site ≡ Some s → (s.is_joined ≡ true → InTime publication says site u.world)
      → Standing Ready (join_if_due (model publication says) site u)
  joining-stands u s none b here begins = elim (is_joined_in (model publication says) site u.world)
      as (λ (joined : Bool). is_joined_in (model publication says) site u.world ≡ joined
      → Standing Ready (if joined then u else exchange (model publication says) site SendJoin (as_it_is (model publication says) site) (as_it_is (model publication says) site) u)) [
        | true ↦ (λ is. (let joined : s.is_joined ≡ true = joined-is u.world s true here is in goes-on Ready u.world u.stop none (record { keeps = (b, begins joined); tables = s; here = here; joined = joined })))
        | false ↦ (λ is. join-stands u s none b here (joined-is u.world s false here is))
      ] refl

  -- The whole session.
  stopped-stands : (next : Session Model → Session Model) (u : Session Model) (stop : Option Refusal) → u.stop ≡ stop → Stands Ready u.world stop → ((v : Session Model) → v.stop ≡ None → Ready v.world → Standing Ready (next v))
      → Standing Ready (let v : Session Model = elim stop [ Some refusal ↦ u | None ↦ next u ] in v)
  stopped-stands next u (Some refusal) is stands more = subst (Stands Ready u.world) (sym is) stands
  stopped-stands next u None is stands more = more u is stands

  session-stands : (m : Model) (s : SubscriberTables) → IsBehind publication says m → subscriber_at m.world site ≡ Some s → (s.is_joined ≡ true → InTime publication says site m) → Standing Ready (session (model publication says) site m)
  session-stands m s b here begins =
      let started : Session Model = record { world = m; uploads = 0; downloads = 0; stop = None } in
      let joined : Session Model = join_if_due (model publication says) site started in
      let sent : Session Model = unless_stopped (model publication says) site (all_uploads (model publication says) site) joined in
      let ranged : Session Model = unless_stopped (model publication says) site (all_ranges (model publication says) site) sent in
      stopped-stands (all_downloads (model publication says) site) ranged ranged.stop refl
      (stopped-stands (all_ranges (model publication says) site) sent sent.stop refl
      (stopped-stands (all_uploads (model publication says) site) joined joined.stop refl (joining-stands started s refl b here begins) uploads-stand)
      ranges-stand)
      downloads-stand

  stands-ends : (k : Model) (stop : Option Refusal) → Stands Ready k stop → EndsBy k site stop
  stands-ends k None stands = tt
  stands-ends k (Some why) stands = stands

  pub session-ends : (m : Model) (s : SubscriberTables) → IsBehind publication says m → subscriber_at m.world site ≡ Some s → (s.is_joined ≡ true → InTime publication says site m)
      → (let done : Session Model = session (model publication says) site m in EndsBy done.world site done.stop)
  session-ends m s b here begins =
      let done : Session Model = session (model publication says) site m in
      stands-ends done.world done.stop (session-stands m s b here begins)

pub sessions-finish : Laws → OfEveryValidRun SessionFinishes
sessions-finish laws resolvers publication valid says tallies slips events s here begins =
    session-ends publication says resolvers valid laws s.site (model_behind publication says tallies slips events) s (run-behind publication says tallies slips events) here begins
