-- A finished session leaves its site settled: what each part of a session leaves, and the law.
use Rattle.std.specs.Prelude.{◌≡◌, ◌≤◌, ◌<◌, ◌-◌, ◌+◌, ℕ, zero, suc, List, Bool, true, false, Option, Some, None, if◌then◌else◌, nat_le, option_map, unwrap_or, refl}
use Rattle.std.proofs.Common.{arith, subst, sym, ap, ◌∙◌}
use Rattle.std.proofs.lemmas.Bool.Decides.{nat_tests}
use Rattle.merge_types.specs.declared.identifiers.SiteId.{SiteId}
use Rattle.merge_schema.specs.declared.publication.Publication.{Publication}
use Rattle.merge_batch.specs.declared.refusal.Refusal.{Refusal}
use Rattle.merge_batch.specs.declared.reply.Downloaded.{Downloaded}
use Rattle.merge_batch.specs.declared.reply.Reply.TheVariants as reply
use Rattle.merge_model.specs.Failing.Runs.{model_behind_actions}
use Rattle.merge_model.specs.History.{History, MadeChange, made_at}
use Rattle.merge_model.specs.History.Model.{Model, model, model_step}
use Rattle.merge_model.specs.Laws.Promises.{IsSettled, SessionSettles, is_expired_at}
use Rattle.merge_model.specs.Publisher.{last_closed}
use Rattle.merge_model.specs.World.Session.{Session, after_download, all_downloads, answered_as, session_after_reply, as_it_is, ask, all_ranges, all_uploads, range_requests_up_to, downloaded_in, downloads_up_to, exchange, has_grant, is_joined_in, join_if_due, last_message, range_asks, session, then_deliver, unless_stopped, unsent_generations, uploads_up_to, with_answer, with_upload}
use Rattle.merge_model.specs.World.Steps.{Action, Deliver, Send, SendDownload, SendJoin, SendRanges, SendUpload, Sending}
use Rattle.merge_model.specs.declared.outcome.Outcome.TheVariants.{NoPost, Posted, Refuses, Took}
use Rattle.merge_model.specs.declared.outcome.Outcome.{Outcome}
use Rattle.merge_model.specs.Subscriber.{subscriber_last_closed}
use Rattle.merge_model.specs.Tables.{SubscriberTables}
use Rattle.merge_model.specs.World.{Saying, World, subscriber_at}
use Rattle.merge_model.specs.declared.letter.Message.{Message}
use Rattle.merge_model.specs.declared.letter.Message.TheVariants.{Replies}
use Rattle.merge_laws.specs.Facts.Numbered.{Numbered}
use Rattle.merge_laws.specs.Facts.Received.{Received}
use Rattle.merge_laws.specs.Laws.{OfEveryActions, OfEveryDecidedRun}
use Rattle.merge_model.proofs.Lists.Finding.{some_same}
use Rattle.merge_laws.proofs.Received.Models.{model-fine}
use Rattle.merge_laws.proofs.Sessions.SessionChanges.{NoneBetween, UpTo, none-later, none-nothing, nothing-none, order-up, up-none}
use Rattle.merge_laws.proofs.Sessions.SessionExchanges.{DownloadLeaves, JoinLeaves, RangesLeave, UploadLeaves, UploadRests, download-leaves, join-leaves, ranges-leave, upload-leaves}
use Rattle.merge_laws.proofs.Sessions.SessionSteps.{Answered, Ends}
use Rattle.merge_laws.proofs.Numbered.Tellings.{numbered-by-actions, numbered-keeps}
use Rattle.merge_laws.proofs.Walking.{step-keeps, same-sites}
use Rattle.merge_laws.proofs.Runs.OfActions.{of-runs}

module _ (publication : Publication) (says : Saying) (site : SiteId) where
  abbrev pub Known : Model → Type 0
  Known k = Received k.world k.history × Numbered k.world k.history

  -- What is known behind each part of a session.

  -- the site's tables
  pub record At (k : Model) : Type 0 where
    pub tables : SubscriberTables
    pub known : Known k
    pub here : subscriber_at k.world site ≡ Some tables

  pub record Joins (k : Model) : Type 0 where
    pub at : At k
    pub joined : at.tables.is_joined ≡ true

  -- nothing of it is unsent
  pub record Uploaded (k : Model) : Type 0 where
    pub joins : Joins k
    pub none : NoneBetween joins.at.tables.received (subscriber_last_closed joins.at.tables + 1) (made_at k.history site.0)

  -- the publisher's generations have closed up to this one, and the open one is empty. The site may still have to ask for some
  pub record Fetches (target : ℕ) (k : Model) : Type 0 where
    pub uploaded : Uploaded k
    pub closed : last_closed k.world.publisher ≡ target
    pub empty : k.world.publisher.gens.filling.filled ≡ 0
    pub in_time : is_expired_at publication k.world site ≡ false
    pub marks : uploaded.joins.at.tables.watermark ≤ target

  pub record Fetched (k : Model) : Type 0 where
    pub fetches : Fetches (last_closed k.world.publisher) k
    pub held : fetches.uploaded.joins.at.tables.watermark ≡ last_closed k.world.publisher

  pub same-site : (k : Model) (a : At k) → a.tables.site ≡ site
  same-site k a = same-sites a.tables.site site (a.known.0.subscribers site.0 a.tables a.here).keyed

  pub own : (k : Model) (a : At k) → subscriber_at k.world a.tables.site ≡ Some a.tables
  own k a = ap (λ (x : SiteId). subscriber_at k.world x) (same-site k a) ∙ a.here

  -- what is said of the model of a session that nothing ended
  abbrev pub Settles : (Model → Type 0) → Session Model → Type 0
  Settles Q u = u.stop ≡ None → Q u.world

  -- What steps keep, an exchange keeps.
  pub step-known : (k : Model) (action : Action) → Known k → Known (model_step publication says k action).0
  step-known k action g = (model-fine publication says k action g.0, step-keeps publication says Received Numbered (λ w h r. r) (numbered-keeps publication says) k action g.0 g.1)

  -- how a session goes on behind an exchange
  arrived-settles : (Acts Rests Q : Model → Type 0) (v : Session Model) (done : Model × Outcome) (next : Session Model → Session Model) → Ends Acts Rests done → Known done.0
      → ((x : Session Model) → Known x.world → Acts x.world → Settles Q (next x)) → ((k : Model) → Known k → Rests k → Q k) → Settles Q (session_after_reply (model publication says) site next v done)
  arrived-settles Acts Rests Q v (k, Took taken) next ends g acts rests = acts (record v { world = k }) g ends
  arrived-settles Acts Rests Q v (k, Refuses refusal) next ends g acts rests = λ none. absurd (grind (arith, none))
  arrived-settles Acts Rests Q v (k, NoPost) next ends g acts rests = λ none. rests k g ends
  arrived-settles Acts Rests Q v (k, outcome) next ends g acts rests = absurd ends

  answered-settles : (Acts Rests Q : Model → Type 0) (u : Session Model) (done : Model × Outcome) (counted next : Session Model → Session Model) → Answered publication says Acts Rests site done → Known done.0
      → ((x : Session Model) → Known x.world → Acts x.world → Settles Q (next x)) → ((k : Model) → Known k → Rests k → Q k) → Settles Q (answered_as (model publication says) site counted next u done)
  answered-settles Acts Rests Q u (k, Posted number) counted next ends g acts rests =
      arrived-settles Acts Rests Q (counted (record u { world = k })) (model_step publication says k (Deliver number)) next ends (step-known k (Deliver number) g) acts rests
  answered-settles Acts Rests Q u (k, Refuses refusal) counted next ends g acts rests = λ none. absurd (grind (arith, none))
  answered-settles Acts Rests Q u (k, NoPost) counted next ends g acts rests = λ none. rests k g ends
  answered-settles Acts Rests Q u (k, outcome) counted next ends g acts rests = absurd ends

  pub deliver-known : (done : Model × Outcome) → Known done.0 → Known (then_deliver (model publication says) site done).0
  deliver-known (k, Posted number) g = step-known k (Deliver number) g
  deliver-known (k, outcome) g = g

  pub exchange-settles : (Acts Rests Q : Model → Type 0) (sending : Sending) (u : Session Model) (counted next : Session Model → Session Model) → Answered publication says Acts Rests site (ask (model publication says) site sending u.world) → Known u.world
      → ((x : Session Model) → Known x.world → Acts x.world → Settles Q (next x)) → ((k : Model) → Known k → Rests k → Q k) → Settles Q (exchange (model publication says) site sending counted next u)
  exchange-settles Acts Rests Q sending u counted next ends g acts rests = answered-settles Acts Rests Q u (ask (model publication says) site sending u.world) counted next ends
      (deliver-known (model_step publication says u.world (Send site sending)) (step-known u.world (Send site sending) g)) acts rests

  stopped-settles : (Q R : Model → Type 0) (next : Session Model → Session Model) (u : Session Model) (stop : Option Refusal) → u.stop ≡ stop → Settles Q u → ((v : Session Model) → Q v.world → Settles R (next v))
      → Settles R (let v : Session Model = elim stop [ Some refusal ↦ u | None ↦ next u ] in v)
  stopped-settles Q R next u (Some refusal) is q more = λ none. absurd (grind (arith, none, is))
  stopped-settles Q R next u None is q more = more u (q is)

  pub if-settles : (Q : Model → Type 0) (b : Bool) (x y : Session Model) → (b ≡ true → Settles Q x) → (b ≡ false → Settles Q y) → Settles Q (if b then x else y)
  if-settles Q true x y one other = one refl
  if-settles Q false x y one other = other refl

  -- The site joins, where it has not.
  joined-is : (k : Model) (a : At k) (b : Bool) → is_joined_in (model publication says) site k ≡ b → a.tables.is_joined ≡ b
  joined-is k a b is = sym (ap (λ (found : Option SubscriberTables). unwrap_or (option_map (λ (s : SubscriberTables). s.is_joined) found) true) a.here) ∙ is

  -- facts of an exchange are told of the tables' own site
  pub ends-here : (Acts Rests : Model → Type 0) (sending : Sending) (k : Model) (a : At k) → Answered publication says Acts Rests a.tables.site (ask (model publication says) a.tables.site sending k)
      → Answered publication says Acts Rests site (ask (model publication says) site sending k)
  ends-here Acts Rests sending k a ends = subst (λ (x : SiteId). Answered publication says Acts Rests x (ask (model publication says) x sending k)) (same-site k a) ends

  abbrev pub at_next : (k n : Model) (a : At k) (t : SubscriberTables) → Known n → subscriber_at n.world a.tables.site ≡ Some t → At n
  at_next k n a t g found = record { tables = t; known = g; here = subst (λ (x : SiteId). subscriber_at n.world x ≡ Some t) (same-site k a) found }

  made-here : (k n : Model) (a : At k) → made_at n.history a.tables.site.0 ≡ made_at k.history a.tables.site.0 → made_at n.history site.0 ≡ made_at k.history site.0
  made-here k n a same = subst (λ (x : SiteId). made_at n.history x.0 ≡ made_at k.history x.0) (same-site k a) same

  joining-settles : (u : Session Model) → At u.world → Settles Joins (join_if_due (model publication says) site u)
  joining-settles u a =
      let as_is : Session Model → Session Model = as_it_is (model publication says) site in
      if-settles Joins (is_joined_in (model publication says) site u.world) u (exchange (model publication says) site SendJoin as_is as_is u)
      (λ is none. record { at = a; joined = joined-is u.world a true is })
      (λ is. exchange-settles (JoinLeaves a.tables) (λ n. ⊥) Joins SendJoin u as_is as_is
      (ends-here (JoinLeaves a.tables) (λ n. ⊥) SendJoin u.world a (join-leaves publication says u.world a.tables (own u.world a) (joined-is u.world a false is)))
      a.known
      (λ v g l none. record { at = at_next u.world v.world a l.tables g l.here; joined = l.joined })
      (λ n g rests. absurd rests))

  -- It uploads. Each upload takes a generation, so that there are uploads enough.
  upload-settles : (u : Session Model) (j : Joins u.world) (next : Session Model → Session Model)
      → ((v : Session Model) (e : Joins v.world) (l : UploadLeaves u.world j.at.tables v.world) → e.at.tables ≡ l.tables → Settles Uploaded (next v))
      → Settles Uploaded (exchange (model publication says) site SendUpload (with_upload (model publication says) site) next u)
  upload-settles u j next more =
      let k : Model = u.world in
      let a : At k = j.at in
      let s : SubscriberTables = a.tables in
      exchange-settles (UploadLeaves k s) (UploadRests s) Uploaded SendUpload u (with_upload (model publication says) site) next
      (ends-here (UploadLeaves k s) (UploadRests s) SendUpload k a
      (upload-leaves publication says k s (own k a) (a.known.0.subscribers site.0 s a.here).own (a.known.1.subscribers s.site.0 s (own k a)).named))
      a.known
      (λ v g l. more v (record { at = at_next k v.world a l.tables g l.here; joined = l.joined ∙ j.joined }) l refl)
      (λ n g r. record {
        joins = record { at = at_next k n a s g r.here; joined = j.joined };
        none = subst (λ (x : SiteId). NoneBetween s.received (subscriber_last_closed s + 1) (made_at n.history x.0)) (same-site k a) (nothing-none n.history s r.nothing);
      })

  uploading-settles : (count bound : ℕ) (u : Session Model) (j : Joins u.world) → UpTo bound (made_at u.world.history site.0) → bound ≤ j.at.tables.received + count → Settles Uploaded (uploads_up_to (model publication says) site count u)
  uploading-settles zero bound u j all enough = λ ended. record {
    joins = j;
    none = up-none bound j.at.tables.received (subscriber_last_closed j.at.tables + 1) (made_at u.world.history site.0) (omega (arith, enough)) all;
  }
  uploading-settles (suc count) bound u j all enough =
      upload-settles u j (uploads_up_to (model publication says) site count) (λ v e l same. (
      let up = l.received in
      let is : e.at.tables.received ≡ l.tables.received = ap (λ (t : SubscriberTables). t.received) same in
      uploading-settles count bound v e
      (subst (λ (made : List MadeChange). UpTo bound made) (sym (made-here u.world v.world j.at l.made)) all) (omega (arith, up, enough, is))))

  -- where the first one acts, the site has another number than 0, and its changes stand in order
  first-settles : (count : ℕ) (u : Session Model) (j : Joins u.world) → count ≡ subscriber_last_closed j.at.tables + 2 - j.at.tables.received → Settles Uploaded (uploads_up_to (model publication says) site count u)
  first-settles zero u j is = (let below = (j.at.known.0.subscribers site.0 j.at.tables j.at.here).own in absurd (omega (arith, below, is)))
  first-settles (suc count) u j is =
      let s : SubscriberTables = j.at.tables in
      upload-settles u j (uploads_up_to (model publication says) site count) (λ v e l same. (
      let up = l.received in
      let t : e.at.tables.received ≡ l.tables.received = ap (λ (x : SubscriberTables). x.received) same in
      let order = (j.at.known.1.subscribers s.site.0 s (own u.world j.at)).order l.named in
      let all : UpTo (subscriber_last_closed s + 1) (made_at u.world.history s.site.0) = order-up s.changes (subscriber_last_closed s + 1) (made_at u.world.history s.site.0) order in
      uploading-settles count (subscriber_last_closed s + 1) v e
      (subst (λ (x : SiteId). UpTo (subscriber_last_closed s + 1) (made_at v.world.history x.0)) (same-site u.world j.at) (subst (λ (made : List MadeChange). UpTo (subscriber_last_closed s + 1) made) (sym l.made) all)) (omega (arith, up, is, t))))

  pub uploads-settle : (u : Session Model) → Joins u.world → Settles Uploaded (all_uploads (model publication says) site u)
  uploads-settle u j = first-settles (unsent_generations (model publication says) site u.world) u j
      (ap (λ (found : Option SubscriberTables). unwrap_or (option_map (λ (x : SubscriberTables). x.gens.filling.last_closed + 2 - x.received) found) 0) j.at.here)

  -- It asks for ranges.
  asking-settles : (count : ℕ) (u : Session Model) → Uploaded u.world → Settles Uploaded (range_requests_up_to (model publication says) site count u)
  asking-settles zero u f = λ none. f
  asking-settles (suc count) u f =
      let k : Model = u.world in
      let a : At k = f.joins.at in
      let Rests : Model → Type 0 = λ (n : Model). (n.world ≡ k.world) × (n.history ≡ k.history) in
      exchange-settles (RangesLeave k a.tables) Rests Uploaded SendRanges u (as_it_is (model publication says) site)
      (λ (t : Session Model). if has_grant (model publication says) site (last_message (model publication says) site t.world) then range_requests_up_to (model publication says) site count t else t)
      (ends-here (RangesLeave k a.tables) Rests SendRanges k a (ranges-leave publication says k a.tables (own k a)))
      a.known
      (λ v g l. (let n : Model = v.world in
      let e : Uploaded n = record {
        joins = record { at = at_next k n a l.tables g l.here; joined = l.joined ∙ f.joins.joined };
        none = subst (λ (made : List MadeChange). NoneBetween l.tables.received (subscriber_last_closed l.tables + 1) made) (sym (made-here k n a l.made))
            (subst (λ (closed : ℕ). NoneBetween l.tables.received (closed + 1) (made_at k.history site.0)) (sym l.closed) (subst (λ (received : ℕ). NoneBetween received (subscriber_last_closed a.tables + 1) (made_at k.history site.0)) (sym l.received) f.none));
      } in
      if-settles Uploaded (has_grant (model publication says) site (last_message (model publication says) site n)) (range_requests_up_to (model publication says) site count v) v (λ is. asking-settles count v e) (λ is none. e)))
      (λ n g r. record {
        joins = record { at = record { tables = a.tables; known = g; here = ap (λ (x : World). subscriber_at x site) r.0 ∙ a.here }; joined = f.joins.joined };
        none = subst (λ (h : History). NoneBetween a.tables.received (subscriber_last_closed a.tables + 1) (made_at h site.0)) (sym r.1) f.none;
      })

  -- It downloads. The first download closes the publisher's open generation, and nothing else happens behind it. Each one moves the
  -- watermark, so that there are downloads enough up to the last closed generation.
  fetches-after : (target : ℕ) (k n : Model) (f : Uploaded k) → Known n → (l : DownloadLeaves publication k f.joins.at.tables n) → last_closed n.world.publisher ≡ target → Fetches target n
  fetches-after target k n f g l closed = record {
    uploaded = record {
      joins = record { at = at_next k n f.joins.at l.tables g l.here; joined = l.joined ∙ f.joins.joined };
      none = subst (λ (made : List MadeChange). NoneBetween l.tables.received (subscriber_last_closed l.tables + 1) made) (sym (made-here k n f.joins.at l.made))
          (subst (λ (end : ℕ). NoneBetween l.tables.received (end + 1) (made_at k.history site.0)) (sym l.closed) (none-later f.joins.at.tables.received l.tables.received (subscriber_last_closed f.joins.at.tables + 1) (made_at k.history site.0) l.received f.none));
    };
    closed = closed;
    empty = l.empty;
    in_time = subst (λ (x : SiteId). is_expired_at publication n.world x ≡ false) (same-site k f.joins.at) l.in_time;
    marks = (let held = l.held in let within = l.within in let last = l.last in omega (arith, held, within, last, closed));
  }

  fetched-after : (k n : Model) (f : Uploaded k) → Known n → (l : DownloadLeaves publication k f.joins.at.tables n) → l.told.last ≤ l.told.from → Fetched n
  unfolding fetches-after
  fetched-after k n f g l all = record {
    fetches = fetches-after (last_closed n.world.publisher) k n f g l refl;
    held = (let held = l.held in let within = l.within in let up = l.up in let last = l.last in omega (arith, held, within, up, last, all));
  }

  pub fetch-settles : (Q : Model → Type 0) (next : Downloaded → Session Model → Session Model) (u : Session Model) (d : Downloaded) → last_message (model publication says) site u.world ≡ Some (Replies (reply.Downloaded d))
      → Settles Q (next d u) → Settles Q (after_download (model publication says) site next u)
  fetch-settles Q next u d last holds =
      subst (λ (found : Option Message). Settles Q (let v : Session Model = elim (downloaded_in (model publication says) site found) [ None ↦ u | Some m ↦ next m u ] in v)) (sym last) holds

  at-least : (a b : ℕ) → nat_le a b ≡ true → a ≤ b
  at-least a b is = grind (arith, nat_tests, is)

  less : (a b : ℕ) → nat_le a b ≡ false → b < a
  less a b is = grind (arith, nat_tests, is)

  downloading-settles : (count target : ℕ) (u : Session Model) (f : Fetches target u.world) → target + 1 ≤ f.uploaded.joins.at.tables.watermark + count → Settles Fetched (downloads_up_to (model publication says) site count target u)
  unfolding fetches-after
  downloading-settles zero target u f enough = (let marks = f.marks in absurd (omega (arith, marks, enough)))
  downloading-settles (suc count) target u f enough =
      let k : Model = u.world in
      let a : At k = f.uploaded.joins.at in
      let next : Downloaded → Session Model → Session Model = λ (d : Downloaded) (t : Session Model). if nat_le target d.from then t else downloads_up_to (model publication says) site count target t in
      exchange-settles (DownloadLeaves publication k a.tables) (λ n. ⊥) Fetched SendDownload u (with_answer (model publication says) site) (after_download (model publication says) site next)
      (ends-here (DownloadLeaves publication k a.tables) (λ n. ⊥) SendDownload k a (download-leaves publication says k a.tables (own k a)))
      a.known
      (λ v g l. (let n : Model = v.world in
      let still : last_closed n.world.publisher ≡ target = l.still f.empty ∙ f.closed in
      let last = l.last in let onward = l.onward in let held = l.held in let from = l.from in
      fetch-settles Fetched next v l.told l.posted
      (if-settles Fetched (nat_le target l.told.from) v (downloads_up_to (model publication says) site count target v)
      (λ is none. fetched-after k n f.uploaded g l (let low = at-least target l.told.from is in omega (arith, low, last, still)))
      (λ is. (let low = less target l.told.from is in let more = onward (omega (arith, low, last, still)) in
      downloading-settles count target v (fetches-after target k n f.uploaded g l still) (omega (arith, more, held, from, enough)))))))
      (λ n g rests. absurd rests)

  pub downloads-settle : (u : Session Model) → Uploaded u.world → Settles Fetched (all_downloads (model publication says) site u)
  unfolding fetches-after
  downloads-settle u f =
      let k : Model = u.world in
      let a : At k = f.joins.at in
      let next : Downloaded → Session Model → Session Model = λ (d : Downloaded) (t : Session Model). if nat_le d.last d.from then t else downloads_up_to (model publication says) site (d.last + 1 - d.from) d.last t in
      exchange-settles (DownloadLeaves publication k a.tables) (λ n. ⊥) Fetched SendDownload u (with_answer (model publication says) site) (after_download (model publication says) site next)
      (ends-here (DownloadLeaves publication k a.tables) (λ n. ⊥) SendDownload k a (download-leaves publication says k a.tables (own k a)))
      a.known
      (λ v g l. (let n : Model = v.world in
      let onward = l.onward in let held = l.held in
      fetch-settles Fetched next v l.told l.posted
      (if-settles Fetched (nat_le l.told.last l.told.from) v (downloads_up_to (model publication says) site (l.told.last + 1 - l.told.from) l.told.last v)
      (λ is none. fetched-after k n f g l (at-least l.told.last l.told.from is))
      (λ is. (let low = less l.told.last l.told.from is in let more = onward low in
      downloading-settles (l.told.last + 1 - l.told.from) l.told.last v (fetches-after l.told.last k n f g l (sym l.last)) (omega (arith, low, more, held)))))))
      (λ n g rests. absurd rests)

  -- The whole session.
  session-settles : (m : Model) → At m → Settles Fetched (session (model publication says) site m)
  session-settles m a =
      let started : Session Model = record { world = m; uploads = 0; downloads = 0; stop = None } in
      let joined : Session Model = join_if_due (model publication says) site started in
      let sent : Session Model = unless_stopped (model publication says) site (all_uploads (model publication says) site) joined in
      let ranged : Session Model = unless_stopped (model publication says) site (all_ranges (model publication says) site) sent in
      stopped-settles Uploaded Fetched (all_downloads (model publication says) site) ranged ranged.stop refl
      (stopped-settles Uploaded Uploaded (all_ranges (model publication says) site) sent sent.stop refl
      (stopped-settles Joins Uploaded (all_uploads (model publication says) site) joined joined.stop refl (joining-settles started a) uploads-settle)
      (λ v f. asking-settles (range_asks (model publication says) site v.world) v f))
      downloads-settle

  pub settled : (k : Model) (f : Fetched k) → IsSettled publication k f.fetches.uploaded.joins.at.tables
  settled k f =
      let a : At k = f.fetches.uploaded.joins.at in record {
        is_here = own k a;
        joined = f.fetches.uploaded.joins.joined;
        in_time = subst (λ (x : SiteId). is_expired_at publication k.world x ≡ false) (sym (same-site k a)) f.fetches.in_time;
        nothing_unsent = none-nothing k.history a.tables (subst (λ (x : SiteId). NoneBetween a.tables.received (subscriber_last_closed a.tables + 1) (made_at k.history x.0)) (sym (same-site k a)) f.fetches.uploaded.none);
        all_held = f.held;
        none_open = f.fetches.empty;
      }

-- A finished session leaves its site settled, where the model is one of which this is known.
pub session-leaves-settled : (publication : Publication) (says : Saying) (m : Model) → Received m.world m.history → Numbered m.world m.history → SessionSettles publication says m
session-leaves-settled publication says m r i s t here ended there =
    let k : Model = (session (model publication says) s.site m).world in
    let f : Fetched publication says s.site k = session-settles publication says s.site m (record { tables = s; known = (r, i); here = here }) ended in
    subst (λ (x : SubscriberTables). IsSettled publication k x) (some_same f.fetches.uploaded.joins.at.tables t (sym f.fetches.uploaded.joins.at.here ∙ there)) (settled publication says s.site k f)

pub sessions-settle-by-actions : OfEveryActions SessionSettles
sessions-settle-by-actions publication says tallies slips actions =
    let known = numbered-by-actions publication says tallies slips actions in
    session-leaves-settled publication says (model_behind_actions publication says tallies slips actions) known.0 known.1

pub sessions-settle : OfEveryDecidedRun SessionSettles
sessions-settle = of-runs SessionSettles sessions-settle-by-actions
