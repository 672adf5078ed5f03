-- Every step, and every list of events, keeps what worlds say of last changes.
use Rattle.std.specs.Prelude.{◌≡◌, ◌≤◌, ◌<◌, ◌+◌, ℕ, List, [], ◌∷◌, true, false, Option, Some, None, refl, map, unwrap_or, length}
use Rattle.std.specs.List.{fold}
use Rattle.std.proofs.Common.{arith, subst, sym, ap, ◌∙◌}
use Rattle.std.proofs.lemmas.Bool.Decides.{nat_tests}
use Rattle.merge_types.specs.declared.changes.Change.{Change}
use Rattle.merge_types.specs.declared.identifiers.Moment.{Moment}
use Rattle.merge_types.specs.declared.identifiers.SiteId.{SiteId}
use Rattle.merge_types.specs.declared.values.Value.{Value}
use Rattle.merge_units.specs.declared.version.Version.{Version}
use Rattle.merge_gens.specs.Book.{moment_of}
use Rattle.merge_ident.specs.Holders.{Holder}
use Rattle.merge_schema.specs.declared.publication.Publication.{Publication}
use Rattle.merge_batch.specs.declared.request.Join.{Join}
use Rattle.merge_batch.specs.declared.request.Outstanding.{Outstanding}
use Rattle.merge_batch.specs.declared.request.Outstanding.TheVariants as ask
use Rattle.merge_batch.specs.declared.request.Request.TheVariants as request
use Rattle.merge_batch.specs.declared.request.Upload.{Upload}
use Rattle.merge_batch.specs.declared.reply.Reply.{Reply}
use Rattle.merge_batch.specs.declared.reply.Reply.TheVariants as reply
use Rattle.merge_model.specs.Failing.{Slips, faulty}
use Rattle.merge_model.specs.Failing.Runs.{model_behind, model_behind_actions}
use Rattle.merge_model.specs.Publisher.Acts.{Act}
use Rattle.merge_model.specs.Judge.ByHistory.{by_made, by_past}
use Rattle.merge_model.specs.Judge.ByNumbers.{received_by_number}
use Rattle.merge_model.specs.Tables.Changes.{key_of, version_after}
use Rattle.merge_model.specs.Publisher.Entries.{Entries}
use Rattle.merge_model.specs.World.Faults.{reply_fault}
use Rattle.merge_model.specs.History.{History, MadeChange, Past, made_at, no_history, past_at, pasts_with}
use Rattle.merge_model.specs.Judge.{PublisherJudge, SubscriberJudge}
use Rattle.merge_model.specs.Tables.Keys.{put_number}
use Rattle.merge_model.specs.History.Model.{Model, empty_model, model}
use Rattle.merge_model.specs.History.Noting
use Rattle.merge_model.specs.History.Pasts.{past_after}
use Rattle.merge_model.specs.Publisher.{last_closed, tables_after_close}
use Rattle.merge_model.specs.Publisher.PublisherDownload.{reply_to, tables_after_download}
use Rattle.merge_model.specs.Publisher.PublisherJoin.{join_taken}
use Rattle.merge_model.specs.Publisher.PublisherLocal.{made_locally}
use Rattle.merge_model.specs.Publisher.PublisherPurge.{purge}
use Rattle.merge_model.specs.Publisher.PublisherRanges.{plans, reply_to_ranges, with_grants}
use Rattle.merge_model.specs.Publisher.PublisherUpload.{brings_news, taken_in, upload_refusal}
use Rattle.merge_model.specs.Subscriber.Reinit.{result_of_reinit}
use Rattle.merge_model.specs.Subscriber.Sending.{join_of, upload_end, upload_sent, upload_to, want_of, with_message}
use Rattle.merge_model.specs.World.Steps.{Action, kept_decisions, upload_questions}
use Rattle.merge_model.specs.Subscriber.{empty_subscriber, subscriber_at_moment, subscriber_closed, subscriber_last_closed, subscriber_local_refusal, subscriber_made_locally, subscriber_next_dot, subscriber_version_at, with_version_if}
use Rattle.merge_types.specs.declared.row_key.RowKey.{RowKey as Key}
use Rattle.merge_model.specs.Tables.{PublisherTables, SubscriberTables}
use Rattle.merge_model.specs.Subscriber.Taking.{seq_of, tables_after_reply}
use Rattle.merge_model.specs.World.{Saying, World, empty_world, subscriber_at, with_publisher, with_subscriber}
use Rattle.merge_model.specs.declared.letter.Message.TheVariants.{Asks, Replies}
use Rattle.merge_model.specs.declared.event.Event.{Event}
use Rattle.merge_model.proofs.Runs.Actions.{failing-actions-keep}
use Rattle.merge_laws.proofs.Runs.Tallied.{numbered-tallied, received-tallied}
use Rattle.merge_laws.specs.Facts.Received.{Received}
use Rattle.merge_laws.specs.Facts.Numbered.{Numbered, Tells, last_of}
use Rattle.merge_laws.proofs.Received.Arrivals.{upload-known}
use Rattle.merge_laws.proofs.Received.Deliveries.{news-above}
use Rattle.merge_laws.proofs.Received.Models.{begins, begins-with, model-fine}
use Rattle.merge_laws.proofs.Walking.Noted.{acts-keep, acts-own, anew-keep, lines-keep, own-keep, purge-keep, reply-keep}
use Rattle.merge_laws.proofs.Numbered.Numbers.{Alike, Onward, alike-itself, alike-notes, alike-on, change-on, done-more, done-same, join-on, letter-tells, made-other, made-same, message-sent, posted-on, publisher-same, subscriber-on, upload-on}
use Rattle.merge_laws.proofs.Received.Publishing.{SameNumbers, asked-same, same-sites}
use Rattle.merge_laws.proofs.Received.Replying.{downloaded-bound, downloaded-least, uploaded-bound, uploaded-least}
use Rattle.merge_laws.proofs.Received.Sendings.{batch-begin, batch-bound}
use Rattle.merge_laws.proofs.Numbered.Telling.{anew-tells, answered-tells, change-older, change-tells, closing-tells, message-tells, moment-tells, received-tells}
use Rattle.merge_laws.proofs.Walking.{Sends, StepsKeep, acts_in, comes, here, join_noted, own_noted, step-keeps, told_by, uploaded_world}
use Rattle.merge_laws.proofs.Received.Worlds.{history-same, no-gap}
use Rattle.merge_laws.proofs.Runs.OfActions.{of-events}

-- What a subscriber does.

closed-onward : (made : List MadeChange) (now : Moment) (s : SubscriberTables) → Tells made s.site.0 s → Onward made s (subscriber_closed (subscriber_at_moment now s))
closed-onward made now s t = record { site = refl; rises = grind (arith, nat_tests); tells = closing-tells made s.site.0 now s t }

-- a message that is no upload
other-onward : (made : List MadeChange) (sent : Outstanding) (s : SubscriberTables) → ((from to : ℕ) → sent ≡ ask.Upload from to → ⊥) → Tells made s.site.0 s → Onward made s (with_message sent s)
other-onward made sent s other t = record { site = refl; rises = omega arith; tells = message-tells made s.site.0 sent s (λ from to e. absurd (other from to e)) t }

upload-onward : (made : List MadeChange) (now : Moment) (from to : ℕ) (s : SubscriberTables) → (subscriber_closed (subscriber_at_moment now s)).received ≤ to → Tells made s.site.0 s → Onward made s (with_message (ask.Upload from to) (subscriber_closed (subscriber_at_moment now s)))
upload-onward made now from to s below t =
    let c : SubscriberTables = subscriber_closed (subscriber_at_moment now s) in
    record { site = refl; rises = grind (arith, nat_tests); tells = message-tells made s.site.0 (ask.Upload from to) c (λ f g e. grind (arith, e, below)) (closing-tells made s.site.0 now s t) }

-- what an upload tells is kept of its last generation
through-is : (made : List MadeChange) (n : ℕ) (c : SubscriberTables) (to : ℕ) → Tells made n c → to ≤ subscriber_last_closed c → c.received < to → unwrap_or (moment_of c.gens.closings to) 0 ≡ last_of to made
through-is made n c to t up low = ap (λ (found : Option ℕ). unwrap_or found 0) (t.keeps to low up)

-- a reply
reply-onward : (publication : Publication) (made : List MadeChange) (judge : SubscriberJudge) (now : Moment) (sent : Outstanding) (m : Reply) (s : SubscriberTables) → reply_fault publication sent m s ≡ None → s.outstanding ≡ Some (seq_of m, sent) → Tells made s.site.0 s
    → Onward made s (tables_after_reply judge now m s)
reply-onward publication made judge now sent (reply.Joined m) s none out t =
    let a = answered-tells made s.site.0 (subscriber_at_moment now s) (moment-tells made s.site.0 now s t) in
    record { site = refl; rises = omega arith; tells = record { named = a.named; order = a.order; entered = a.entered; idle = a.idle; keeps = a.keeps; above = a.above; sent = a.sent } }
reply-onward publication made judge now sent (reply.Uploaded m) s none out t =
    let u : SubscriberTables = record (subscriber_at_moment now s) { outstanding = None } in
    record {
      site = refl;
      rises = omega arith;
      tells = received-tells made s.site.0 m.received u (uploaded-least publication sent m s (seq_of (reply.Uploaded m)) none out t.sent) (uploaded-bound publication sent m s none) refl
          (answered-tells made s.site.0 (subscriber_at_moment now s) (moment-tells made s.site.0 now s t));
    }
reply-onward publication made judge now sent (reply.Ranged m) s none out t =
    let a = answered-tells made s.site.0 (subscriber_at_moment now s) (moment-tells made s.site.0 now s t) in
    record { site = refl; rises = omega arith; tells = record { named = a.named; order = a.order; entered = a.entered; idle = a.idle; keeps = a.keeps; above = a.above; sent = a.sent } }
reply-onward publication made judge now sent (reply.Downloaded m) s none out t =
    let u : SubscriberTables = record (subscriber_at_moment now s) { outstanding = None } in
    let a = received-tells made s.site.0 m.received u (downloaded-least publication sent m s none) (downloaded-bound publication sent m s none) refl
    (answered-tells made s.site.0 (subscriber_at_moment now s) (moment-tells made s.site.0 now s t)) in
    record { site = refl; rises = omega arith; tells = record { named = a.named; order = a.order; entered = a.entered; idle = a.idle; keeps = a.keeps; above = a.above; sent = a.sent } }
reply-onward publication made judge now sent (reply.Refused number values) s none out t =
    record { site = refl; rises = omega arith; tells = answered-tells made s.site.0 (subscriber_at_moment now s) (moment-tells made s.site.0 now s t) }

-- a local change
version-onward : (key : Key) (found : Option Version) (u : SubscriberTables) → ((with_version_if key found u).site.0 ≡ u.site.0) × (subscriber_last_closed u ≤ subscriber_last_closed (with_version_if key found u))
version-onward key None u = (refl, omega arith)
version-onward key (Some version) u = (refl, omega arith)

-- What each way keeps.

module _ (publication : Publication) (says : Saying) where
  -- the publisher's own steps, which leave the numbers of the sites
  own-on : (w : World) (h k : History) (q : PublisherTables) → Received w h → Numbered w h → Alike h k → SameNumbers w.publisher q → Numbered (with_publisher q w) k
  own-on w h k q r i a same = publisher-same w k q same (alike-on w h r i k a)

  subs : (w : World) (h : History) (s : SubscriberTables) → Numbered w h → subscriber_at w s.site ≡ Some s → Tells (made_at h s.site.0) s.site.0 s
  subs w h s i at = i.subscribers s.site.0 s at

  change-kept : (w : World) (h : History) (s : SubscriberTables) (change : Change) (d : Value × List (ℕ × Holder)) → Received w h → Numbered w h → subscriber_at w s.site ≡ Some s → (s.site.0 ≡ 0 → ⊥) → subscriber_local_refusal publication change s ≡ None
      → Numbered (with_subscriber (subscriber_made_locally publication change d (subscriber_at_moment w.moment s)).0 w) (Noting.with_change publication (subscriber_next_dot s) (subscriber_last_closed s + 1) change d.0 h)
  change-kept w h s change d r i at named fine =
      let key : Key = key_of (subscriber_next_dot s) change in
      let c : MadeChange = Noting.made_change publication (subscriber_next_dot s) (subscriber_last_closed s + 1) change d.0 key (past_after publication (subscriber_next_dot s) change (past_at h s.site.0 key)) in
      let k : History = Noting.with_change publication (subscriber_next_dot s) (subscriber_last_closed s + 1) change d.0 h in
      let u : SubscriberTables = record (subscriber_at_moment w.moment s) { changes = s.changes + 1; held = d.1 } in
      let t : SubscriberTables = (subscriber_made_locally publication change d (subscriber_at_moment w.moment s)).0 in
      let onward = version-onward key (version_after publication (subscriber_next_dot s) d.0 change (subscriber_version_at s key)) u in
      let same : made_at k s.site.0 ≡ c ∷ made_at h s.site.0 = made-same h c in
      change-on w h k s t r i at onward.1 (λ n differs. made-other h c n differs)
      (λ to up. ap (λ (made : List MadeChange). last_of to made) same ∙ change-older (made_at h s.site.0) c s refl refl to up)
      (subst (λ (made : List MadeChange). Tells made s.site.0 t) (sym same) (change-tells publication change w.moment d s.site.0 s (made_at h s.site.0) c refl refl named fine (subs w h s i at)))
      onward.0 refl

  join-sent : (w : World) (h : History) (s : SubscriberTables) → Received w h → Numbered w h → subscriber_at w s.site ≡ Some s → s.is_joined ≡ false → Sends Numbered s.site (Asks (request.Join (join_of s))) (with_subscriber (with_message ask.Join s) w) h
  join-sent w h s r i at joining =
      let t : Tells (made_at h s.site.0) s.site.0 s = subs w h s i at in
      message-sent w h s (with_message ask.Join s) (Asks (request.Join (join_of s))) r i at (other-onward (made_at h s.site.0) ask.Join s (λ from to e. grind (arith, e)) t)
      (omega arith, t.idle ((r.subscribers s.site.0 s at).idle joining))

  upload-sends : (w : World) (h : History) (s : SubscriberTables) → Received w h → Numbered w h → subscriber_at w s.site ≡ Some s
      → (let made : SubscriberTables × Upload = upload_sent (by_made h s.site) (subscriber_closed (subscriber_at_moment w.moment s)) in Sends Numbered s.site (Asks (request.Upload made.1)) (with_subscriber made.0 w) h)
  upload-sends w h s r i at =
      let judge : SubscriberJudge = by_made h s.site in
      let c : SubscriberTables = subscriber_closed (subscriber_at_moment w.moment s) in
      let to : ℕ = upload_end judge c in
      let t : Tells (made_at h s.site.0) s.site.0 s = subs w h s i at in
      let own = (r.subscribers s.site.0 s at).own in
      let below : c.received ≤ subscriber_last_closed c = grind (arith, nat_tests, own) in
      let up : to ≤ subscriber_last_closed c = batch-bound (λ (g : ℕ). length (judge.changed_between c.received g)) c.received (subscriber_last_closed c) below in
      let low : c.received ≤ to = batch-begin (λ (g : ℕ). length (judge.changed_between c.received g)) c.received (subscriber_last_closed c) in
      message-sent w h s (with_message (ask.Upload c.received to) c) (Asks (request.Upload (upload_to judge c to))) r i at
      (upload-onward (made_at h s.site.0) w.moment c.received to s low t) (up, λ goes. through-is (made_at h s.site.0) s.site.0 c to (closing-tells (made_at h s.site.0) s.site.0 w.moment s t) up goes)

  -- an answer that changes none of the numbers
  answer-on : (w : World) (h : History) (site : SiteId) (m : Reply) (v : World) → Numbered v h → Sends Numbered site (Replies m) v h
  answer-on w h site m v i = posted-on v h (record { site = site; message = Replies m }) tt i

  -- what a join and an upload note changes Done, and no change but the publisher's is new
  pub joined-alike : (h : History) (judge : PublisherJudge) (m : Join) (p : PublisherTables) → Alike (Noting.with_done m.site.0 0 m.generation h) (join_noted judge m p h)
  joined-alike h judge m p =
      let done : History = Noting.with_done m.site.0 0 m.generation h in
      let based : History = record done { bases = put_number h.bases m.site.0 (last_closed p) } in
      lines-keep (λ (x : History). Alike done x) (alike-notes done) (map (Noting.gone_line (last_closed p + 1)) (map (Noting.gone_for m.site) (Noting.left_rows judge m.site))) based (record { done = refl; made = λ n named. refl })

  join-comes : (w : World) (h : History) (number : ℕ) (m : Join) → Received w h → Numbered w h → comes w number m.site (Asks (request.Join m))
      → Sends Numbered m.site (Replies (reply.Joined (record { seq = m.seq }))) (with_publisher (join_taken m (here w)) w) (join_noted (by_past h (pasts_with h number)) m w.publisher h)
  join-comes w h number m r i at =
      let k : History = join_noted (by_past h (pasts_with h number)) m w.publisher h in
      let a : Alike (Noting.with_done m.site.0 0 m.generation h) k = joined-alike h (by_past h (pasts_with h number)) m w.publisher in
      answer-on w k m.site (reply.Joined (record { seq = m.seq })) (with_publisher (join_taken m (here w)) w)
      (join-on w h r i m k a.made (done-same (Noting.with_done m.site.0 0 m.generation h) k a.done (done-more h m.site.0 0 m.generation (omega arith) i.first)) (letter-tells w h r i number (record { site = m.site; message = Asks (request.Join m) }) at))

  -- the history before its generations join those that have acted
  abbrev pub lined : PublisherJudge → Upload → List (Key × Past) → World → History → History
  lined judge m incoming w h =
      let acts : List Act = acts_in publication says judge m w in
      let entries : Entries = Noting.acts_entries publication judge m acts (here w) in
      Noting.with_lines (Noting.lines_of_entries (last_closed (here w) + 1) entries) (fold (Noting.with_act incoming entries) h acts)

  pub uploaded-alike : (judge : PublisherJudge) (m : Upload) (incoming : List (Key × Past)) (w : World) (h : History) → Alike h (lined judge m incoming w h)
  uploaded-alike judge m incoming w h =
      let acts : List Act = acts_in publication says judge m w in
      let entries : Entries = Noting.acts_entries publication judge m acts (here w) in
      lines-keep (λ (x : History). Alike h x) (alike-notes h) (Noting.lines_of_entries (last_closed (here w) + 1) entries) (fold (Noting.with_act incoming entries) h acts)
      (acts-keep (λ (x : History). Alike h x) (alike-notes h) incoming entries acts h (acts-own judge m (kept_decisions says w.tallies (upload_questions publication judge w.moment m w.publisher)) (here w)) (alike-itself h))

  upload-comes : (w : World) (h : History) (number : ℕ) (m : Upload) → Received w h → Numbered w h → comes w number m.site (Asks (request.Upload m))
      → (let judge : PublisherJudge = by_past h (pasts_with h number) in upload_refusal publication judge w.moment m w.publisher ≡ None → brings_news judge m ≡ true
      → Sends Numbered m.site (Replies (reply.Uploaded (told_by judge m))) (uploaded_world publication says judge m (taken_in publication judge m (acts_in publication says judge m w) (here w)) w)
      (Noting.with_acts_noted publication judge m (acts_in publication says judge m w) (pasts_with h number) (here w) h))
  upload-comes w h number m r i at fine news =
      let judge : PublisherJudge = by_past h (pasts_with h number) in
      let acts : List Act = acts_in publication says judge m w in
      let q : PublisherTables = taken_in publication judge m acts (here w) in
      let before : History = lined judge m (pasts_with h number) w h in
      let k : History = Noting.with_acts_noted publication judge m acts (pasts_with h number) (here w) h in
      let a : Alike h before = uploaded-alike judge m (pasts_with h number) w h in
      let facts = upload-known publication judge w.moment m w.publisher fine in
      let begins_at : m.from ≤ received_by_number w.publisher m.site.0 = no-gap h w.publisher m.site.0 m.from r.done facts.1 in
      let goes_on : received_by_number w.publisher m.site.0 < m.to = news-above w h r (pasts_with h number) m news in
      let goes : m.from < m.to = omega (arith, begins_at, goes_on) in
      answer-on w k m.site (reply.Uploaded (told_by judge m)) (uploaded_world publication says judge m q w)
      (numbered-tallied (with_publisher q w) (uploaded_world publication says judge m q w).tallies k
      (upload-on w h r i m acts q refl facts.0 k a.made (done-more before m.site.0 m.from m.to (omega (arith, goes)) (done-same h before a.done i.first)) goes
      (letter-tells w h r i number (record { site = m.site; message = Asks (request.Upload m) }) at)))

  pub numbered-keeps : StepsKeep publication says Received Numbered
  numbered-keeps = record {
    moment = λ w h now r i. record { subscribers = i.subscribers; letters = i.letters; taken = i.taken; unknown = i.unknown; strangers = i.strangers; first = i.first };
    own_change = λ w h change d r i fine is. (let judge : PublisherJudge = by_past h (pasts_with h 0) in let q : PublisherTables = (made_locally publication judge change d (here w)).0 in
        own-on w h (own_noted publication judge change d (here w) h) q r i (own-keep (λ (x : History). Alike h x) (alike-notes h) publication judge change d (here w) h (alike-itself h)) (same-sites w.publisher q refl));
    own_closing = λ w h r i. own-on w h h (tables_after_close (here w)) r i (alike-itself h) (same-sites w.publisher (tables_after_close (here w)) refl);
    forgetting = λ w h r i. (let judge : PublisherJudge = by_past h (pasts_with h 0) in let q : PublisherTables = (purge publication w.moment w.publisher).0 in
        own-on w h (Noting.noted_purge publication judge (here w) h) q r i (purge-keep (λ (x : History). Alike h x) (alike-notes h) publication judge (here w) h (alike-itself h)) (same-sites w.publisher q refl));
    same = λ w h s r i at. subscriber-on w h s s r i at (record { site = refl; rises = omega arith; tells = subs w h s i at });
    subscriber_change = λ w h s change d r i at named fine is. change-kept w h s change d r i at named fine;
    subscriber_closing = λ w h s r i at. subscriber-on w h s (subscriber_closed (subscriber_at_moment w.moment s)) r i at (closed-onward (made_at h s.site.0) w.moment s (subs w h s i at));
    anew = λ w h s r i at. (let judge : SubscriberJudge = by_made h s.site in let k : History = Noting.noted_anew judge s h in let j : Numbered w k = alike-on w h r i k (anew-keep (λ (x : History). Alike h x) (alike-notes h) judge s h (alike-itself h)) in
        subscriber-on w k s (result_of_reinit judge (subscriber_at_moment w.moment s)).0 (history-same w h k (anew-keep (λ (x : History). Alike h x) (alike-notes h) judge s h (alike-itself h)).done r) j at
        (record { site = refl; rises = grind (arith, nat_tests); tells = anew-tells (made_at k s.site.0) s.site.0 judge w.moment s (subs w k s j at) }));
    sends_join = λ w h s r i at joining. join-sent w h s r i at joining;
    sends_upload = λ w h s r i at fine. upload-sends w h s r i at;
    sends_ranges = λ w h s r i at fine. message-sent w h s (with_message ask.Ranges s) (Asks (request.Ranges (record { site = s.site; seq = s.seq + 1; wants = map want_of s.held }))) r i at (other-onward (made_at h s.site.0) ask.Ranges s (λ from to e. grind (arith, e)) (subs w h s i at)) tt;
    sends_ask = λ w h s r i at fine. message-sent w h s (with_message (ask.Download s.watermark) s) (Asks (request.Download (record { site = s.site; seq = s.seq + 1; from = s.watermark }))) r i at
        (other-onward (made_at h s.site.0) (ask.Download s.watermark) s (λ from to e. grind (arith, e)) (subs w h s i at)) tt;
    joins = λ w h number m r i at fine acts. join-comes w h number m r i at;
    joins_again = λ w h number m r i at acts. answer-on w h m.site (reply.Joined (record { seq = m.seq })) (with_publisher (here w) w) (own-on w h h (here w) r i (alike-itself h) (same-sites w.publisher (here w) refl));
    uploads = λ w h number m r i at fine news. upload-comes w h number m r i at fine news;
    uploads_again = λ w h number m r i at none. (let judge : PublisherJudge = by_past h (pasts_with h number) in
        answer-on w h m.site (reply.Uploaded (told_by judge m)) (uploaded_world publication says judge m (here w) w) (numbered-tallied (with_publisher (here w) w) (uploaded_world publication says judge m (here w) w).tallies h
        (own-on w h h (here w) r i (alike-itself h) (same-sites w.publisher (here w) refl))));
    answers_ranges = λ w h site m r i. (let q : PublisherTables = with_grants (plans publication m w.publisher) (here w) in
        answer-on w h site (reply.Ranged (reply_to_ranges m (plans publication m w.publisher))) (with_publisher q w) (own-on w h h q r i (alike-itself h) (same-sites w.publisher q refl)));
    answers_ask = λ w h number site m r i at fine. (let q : PublisherTables = tables_after_download m (here w) in
        answer-on w h site (reply.Downloaded (reply_to publication (by_past h (pasts_with h number)) m q)) (with_publisher q w)
        (own-on w h h q r i (alike-itself h) (record { received = λ n. (asked-same m (here w)).received n; number = λ n. (asked-same m (here w)).number n; joined = λ x. (asked-same m (here w)).joined x })));
    replies = λ w h s number m sent r i at there out none. (let judge : SubscriberJudge = by_made h s.site in let k : History = Noting.noted_reply judge s.site (pasts_with h number) m h in
        let a : Alike h k = reply-keep (λ (x : History). Alike h x) (alike-notes h) judge s.site (pasts_with h number) m h (alike-itself h) in let j : Numbered w k = alike-on w h r i k a in
        subscriber-on w k s (tables_after_reply judge w.moment m s) (history-same w h k a.done r) j at (reply-onward publication (made_at k s.site.0) judge w.moment sent m s none out (subs w k s j at)));
  }

-- how it begins
begins-telling : (publication : Publication) (n : ℕ) (site : SiteId) → site.0 ≡ n → Tells [] n (empty_subscriber publication site)
begins-telling publication n site keyed = record {
  named = λ own. (refl, refl);
  order = λ named. refl;
  entered = λ filled. absurd (filled refl);
  idle = λ empty. refl;
  keeps = λ generation low up. absurd (omega (arith, low, up));
  above = λ generation beyond. refl;
  sent = λ seq from to e. absurd (grind (arith, e));
}

pub numbered-begins : (publication : Publication) (tallies : List ℕ) → Numbered (empty_world publication tallies) no_history
numbered-begins publication tallies = record {
  subscribers = λ n s at. begins-with publication (λ (k : ℕ) (t : SubscriberTables). Tells [] k t) (begins-telling publication) n s at;
  letters = tt;
  taken = λ n. refl;
  unknown = λ n none. refl;
  strangers = λ n named none. refl;
  first = λ n. refl;
}

pub numbered-by-actions : (publication : Publication) (says : Saying) (tallies : List ℕ) (slips : Slips) (actions : List Action)
    → (let m : Model = model_behind_actions publication says tallies slips actions in Received m.world m.history × Numbered m.world m.history)
numbered-by-actions publication says tallies slips actions = failing-actions-keep publication (model publication says) (λ (m : Model). Received m.world m.history × Numbered m.world m.history)
    (λ m action i. (model-fine publication says m action i.0, step-keeps publication says Received Numbered (λ w h r. r) (numbered-keeps publication says) m action i.0 i.1)) (λ m others i. (received-tallied m.world others m.history i.0, numbered-tallied m.world others m.history i.1)) actions (faulty (empty_model publication tallies) slips)
    (begins publication tallies, numbered-begins publication tallies)

pub numbered-always : (publication : Publication) (says : Saying) (tallies : List ℕ) (slips : Slips) (events : List Event)
    → (let m : Model = model_behind publication says tallies slips events in Received m.world m.history × Numbered m.world m.history)
numbered-always publication says tallies slips events = of-events publication says tallies slips events (λ (m : Model). Received m.world m.history × Numbered m.world m.history) (numbered-by-actions publication says tallies slips)
