-- Every step, and every list of events, keeps that a joined site takes for received only what has acted.
use Rattle.std.specs.Prelude.{◌≡◌, ◌≤◌, ◌<◌, ◌==◌, ◌++◌, ◌+◌, ◌&&◌, ℕ, zero, suc, List, [], ◌∷◌, Bool, true, false, Option, Some, None, refl, if◌then◌else◌, is_some, map, max, option_map, unwrap_or}
use Rattle.std.proofs.Common.{arith, subst, sym, ap, ◌∙◌}
use Rattle.std.proofs.lemmas.Bool.Decides.{nat_tests}
use Rattle.merge_types.specs.declared.changes.Change.{Change}
use Rattle.merge_types.specs.declared.identifiers.Moment.{Moment}
use Rattle.merge_types.specs.declared.identifiers.SiteId.{SiteId}
use Rattle.merge_types.specs.declared.values.Value.{Value}
use Rattle.merge_units.specs.declared.version.Version.{Version}
use Rattle.merge_ident.specs.Holders.{Holder}
use Rattle.merge_schema.specs.declared.publication.Publication.{Publication}
use Rattle.merge_batch.specs.Replies.{broken_by_reply}
use Rattle.merge_batch.specs.declared.reply.Joined.{Joined}
use Rattle.merge_batch.specs.declared.reply.Reply.{Reply}
use Rattle.merge_batch.specs.declared.reply.Reply.TheVariants as reply
use Rattle.merge_batch.specs.declared.request.Join.{Join}
use Rattle.merge_batch.specs.declared.request.Outstanding.{Outstanding}
use Rattle.merge_batch.specs.declared.request.Outstanding.TheVariants as ask
use Rattle.merge_batch.specs.declared.request.Request.TheVariants as request
use Rattle.merge_batch.specs.declared.request.Upload.{Upload}
use Rattle.merge_model.specs.Failing.{Slips, faulty}
use Rattle.merge_model.specs.Failing.Runs.{model_behind, model_behind_actions}
use Rattle.merge_model.specs.Publisher.Acts.{Act}
use Rattle.merge_model.specs.Judge.ByHistory.{by_made, by_past}
use Rattle.merge_model.specs.Judge.ByNumbers.{received_by_number}
use Rattle.merge_model.specs.Tables.Changes.{key_of, version_after}
use Rattle.merge_model.specs.World.Events.{after}
use Rattle.merge_model.specs.World.Faults.{reply_fault}
use Rattle.merge_model.specs.History.{History, pasts_with}
use Rattle.merge_model.specs.Judge.{PublisherJudge, SubscriberJudge}
use Rattle.merge_model.specs.Tables.Keys.{at_number, put_number}
use Rattle.merge_model.specs.History.Model.{Model, empty_model, model}
use Rattle.merge_model.specs.Publisher.{tables_after_close}
use Rattle.merge_model.specs.Publisher.PublisherDownload.{reply_to, tables_after_download}
use Rattle.merge_model.specs.Publisher.PublisherJoin.{join_acts, join_taken}
use Rattle.merge_model.specs.Publisher.PublisherLocal.{made_locally}
use Rattle.merge_model.specs.Publisher.PublisherPurge.{purge}
use Rattle.merge_model.specs.Publisher.PublisherRanges.{plans, reply_to_ranges, with_grants}
use Rattle.merge_model.specs.Publisher.PublisherUpload.{brings_news, taken_in}
use Rattle.merge_model.specs.Subscriber.Reinit.{result_of_reinit}
use Rattle.merge_model.specs.Subscriber.Sending.{join_of, sending_refusal, upload_end, upload_sent, want_of, with_message}
use Rattle.merge_model.specs.Subscriber.{is_joining, subscriber_at_moment, subscriber_closed, subscriber_last_closed, subscriber_local_refusal, subscriber_made_locally, subscriber_next_dot, subscriber_version_at, with_version_if}
use Rattle.merge_types.specs.declared.row_key.RowKey.{RowKey as Key}
use Rattle.merge_model.specs.Tables.{PublisherTables, SubscriberTables}
use Rattle.merge_model.specs.Subscriber.Taking.{seq_of, tables_after_reply}
use Rattle.merge_model.specs.World.{Saying, World, empty_world, letter_at, subscriber_at, with_publisher, with_subscriber}
use Rattle.merge_model.specs.declared.letter.Message.TheVariants.{Asks, Replies}
use Rattle.merge_model.specs.declared.letter.Letter.{Letter}
use Rattle.merge_model.specs.declared.letter.Message.{Message}
use Rattle.merge_model.specs.declared.event.Event.{Event}
use Rattle.merge_model.specs.World.Steps.{Action}
use Rattle.merge_model.proofs.Runs.Actions.{failing-actions-keep}
use Rattle.merge_laws.proofs.Runs.Tallied.{behind-tallied, received-tallied}
use Rattle.merge_laws.specs.Facts.Behind.{Behind, StaysBehind, TellsActed}
use Rattle.merge_laws.specs.Facts.Received.{JoinFits, MessageFits, Received, joined_at}
use Rattle.merge_laws.proofs.Received.Arrivals.{upload-known}
use Rattle.merge_model.proofs.Runs.Refusals.{first-none}
use Rattle.merge_laws.proofs.Received.Deliveries.{news-above}
use Rattle.merge_model.proofs.Lists.Finding.{all-at, all-more, all-weaker, at_put_other, at_put_same}
use Rattle.merge_laws.proofs.Received.MessageFacts.{acts-later, join-up, letter-fits}
use Rattle.merge_laws.proofs.Received.Models.{begins, begins-with, model-fine}
use Rattle.merge_laws.proofs.Received.Publishing.{SameNumbers, asked-same, joined-joined, joined-received, same-sites, upload-joined, upload-received}
use Rattle.merge_laws.proofs.Received.Steps.{joined-flag}
use Rattle.merge_laws.proofs.Received.Subscribing.{filling-stays, number-decided, same_number}
use Rattle.merge_model.proofs.Lists.Tests.{number-itself}
use Rattle.merge_laws.proofs.Unsent.UnsentKept.{reply-site, version-site}
use Rattle.merge_laws.proofs.Walking.{StepsKeep, acts_in, comes, here, step-keeps, told_by, uploaded_world}
use Rattle.merge_laws.proofs.Received.Worlds.{received-is}
use Rattle.merge_laws.proofs.Runs.OfActions.{of-events}

-- What a subscriber does.

-- a site that has joined may do anything that keeps what is received
joined-goes : (received joined : ℕ) (s t : SubscriberTables) → t.is_joined ≡ true → t.received ≤ received → s.seq ≤ t.seq → StaysBehind received joined s → ((seq : ℕ) → t.outstanding ≡ Some (seq, ask.Join) → seq ≤ joined → t.received ≤ received) → StaysBehind received joined t
joined-goes received joined s t joins below seq f answered = record {
  behind = λ is. below;
  waits = λ none. absurd (grind (arith, none, joins));
  only_joins = λ q sent none out. absurd (grind (arith, none, joins));
  answered = answered;
  made = let m = f.made in omega (arith, m, seq);
}

closing-behind : (received joined : ℕ) (now : Moment) (s : SubscriberTables) → (s.is_joined ≡ false → s.gens.filling.filled ≡ 0) → StaysBehind received joined s → StaysBehind received joined (subscriber_closed (subscriber_at_moment now s))
closing-behind received joined now s idle f = record {
  behind = f.behind;
  waits = λ none. f.waits none ∙ sym (filling-stays s.gens.filling (idle none));
  only_joins = f.only_joins;
  answered = f.answered;
  made = f.made;
}

-- a message: a join where it is joining
message-behind : (received joined : ℕ) (sent : Outstanding) (s : SubscriberTables) → (s.is_joined ≡ false → sent ≡ ask.Join) → StaysBehind received joined s → StaysBehind received joined (with_message sent s)
message-behind received joined sent s joins f = record {
  behind = f.behind;
  waits = f.waits;
  only_joins = λ q other none out. (let same : sent ≡ other = ap (λ (found : Option (ℕ × Outstanding)). unwrap_or (option_map (λ (x : ℕ × Outstanding). x.1) found) sent) out in sym same ∙ joins none);
  answered = λ q out up. (let is : q ≡ s.seq + 1 = grind (arith, out) in let m = f.made in absurd (omega (arith, is, up, m)));
  made = let m = f.made in omega (arith, m);
}

anew-behind : (received joined : ℕ) (judge : SubscriberJudge) (now : Moment) (s : SubscriberTables) → StaysBehind received joined s → StaysBehind received joined (result_of_reinit judge (subscriber_at_moment now s)).0
anew-behind received joined judge now s f = record {
  behind = λ is. absurd (grind (arith, is));
  waits = λ none. refl;
  only_joins = λ q sent none out. absurd (grind (arith, out));
  answered = λ q out up. absurd (grind (arith, out));
  made = f.made;
}

-- a reply that fits a join answers one
joined-fits : (publication : Publication) (sent : Outstanding) (m : Joined) (s : SubscriberTables) → reply_fault publication sent (reply.Joined m) s ≡ None → sent ≡ ask.Join
unfolding broken_by_reply
joined-fits publication ask.Join m s e = refl
joined-fits publication (ask.Upload from to) m s e = absurd (grind (arith, e))
joined-fits publication ask.Ranges m s e = absurd (grind (arith, e))
joined-fits publication (ask.Download from) m s e = absurd (grind (arith, e))

-- whether a reply may answer a join
abbrev answers_joins : Reply → Bool
answers_joins (reply.Joined m) = true
answers_joins (reply.Refused number values) = true
answers_joins m = false

no-join : (publication : Publication) (m : Reply) (s : SubscriberTables) → answers_joins m ≡ false → reply_fault publication ask.Join m s ≡ None → ⊥
unfolding broken_by_reply
no-join publication (reply.Joined m) s is e = absurd (grind (arith, is))
no-join publication (reply.Uploaded m) s is e = grind (arith, e)
no-join publication (reply.Ranged m) s is e = grind (arith, e)
no-join publication (reply.Downloaded m) s is e = grind (arith, e)
no-join publication (reply.Refused number values) s is e = absurd (grind (arith, is))

-- so a site that takes another reply has joined
pub has-joined : (publication : Publication) (received joined : ℕ) (sent : Outstanding) (m : Reply) (s : SubscriberTables) (seq : ℕ) (b : Bool) → s.is_joined ≡ b
    → answers_joins m ≡ false → s.outstanding ≡ Some (seq, sent) → reply_fault publication sent m s ≡ None → StaysBehind received joined s → s.is_joined ≡ true
has-joined publication received joined sent m s seq true is other out none f = is
has-joined publication received joined sent m s seq false is other out none f =
    absurd (no-join publication m s other (subst (λ (o : Outstanding). reply_fault publication o m s ≡ None) (f.only_joins seq sent is out) none))

reply-behind : (publication : Publication) (received joined : ℕ) (judge : SubscriberJudge) (now : Moment) (sent : Outstanding) (site : SiteId) (m : Reply) (s : SubscriberTables) → reply_fault publication sent m s ≡ None → s.outstanding ≡ Some (seq_of m, sent)
    → MessageFits joined site (Some s) (Replies m) → TellsActed received site (Replies m) → StaysBehind received joined s → StaysBehind received joined (tables_after_reply judge now m s)
reply-behind publication received joined judge now sent site (reply.Joined m) s none out fits tells f =
    let is : sent ≡ ask.Join = joined-fits publication sent m s none in
    let waited : s.outstanding ≡ Some (m.seq, ask.Join) = out ∙ ap (λ (o : Outstanding). (let found : Option (ℕ × Outstanding) = Some (m.seq, o) in found)) is in
    record { behind = λ joins. f.answered m.seq waited fits; waits = λ none. absurd (grind (arith, none)); only_joins = λ q o none e. absurd (grind (arith, none)); answered = λ q e up. absurd (grind (arith, e)); made = f.made }
reply-behind publication received joined judge now sent site (reply.Uploaded m) s none out fits tells f =
    let joins : s.is_joined ≡ true = has-joined publication received joined sent (reply.Uploaded m) s m.seq s.is_joined refl refl out none f in
    joined-goes received joined s (tables_after_reply judge now (reply.Uploaded m) s) joins tells (omega arith) f (λ q e up. absurd (grind (arith, e)))
reply-behind publication received joined judge now sent site (reply.Ranged m) s none out fits tells f =
    let joins : s.is_joined ≡ true = has-joined publication received joined sent (reply.Ranged m) s m.seq s.is_joined refl refl out none f in
    joined-goes received joined s (tables_after_reply judge now (reply.Ranged m) s) joins (f.behind joins) (omega arith) f (λ q e up. absurd (grind (arith, e)))
reply-behind publication received joined judge now sent site (reply.Downloaded m) s none out fits tells f =
    let joins : s.is_joined ≡ true = has-joined publication received joined sent (reply.Downloaded m) s m.seq s.is_joined refl refl out none f in
    joined-goes received joined s (tables_after_reply judge now (reply.Downloaded m) s) joins tells (omega arith) f (λ q e up. absurd (grind (arith, e)))
reply-behind publication received joined judge now sent site (reply.Refused number values) s none out fits tells f = record {
  behind = f.behind;
  waits = f.waits;
  only_joins = λ q o none e. absurd (grind (arith, e));
  answered = λ q e up. absurd (grind (arith, e));
  made = f.made;
}

-- a local change
version-goes : (received joined : ℕ) (key : Key) (found : Option Version) (s u : SubscriberTables) → u.is_joined ≡ true → u.received ≡ s.received → u.seq ≡ s.seq → u.outstanding ≡ s.outstanding → s.received ≤ received → StaysBehind received joined s → StaysBehind received joined (with_version_if key found u)
version-goes received joined key None s u joins same seq out below f = joined-goes received joined s u joins (omega (arith, same, below)) (omega (arith, seq)) f (λ q e up. omega (arith, same, below))
version-goes received joined key (Some version) s u joins same seq out below f = joined-goes received joined s (with_version_if key (Some version) u) joins (omega (arith, same, below)) (omega (arith, seq)) f (λ q e up. omega (arith, same, below))

-- Where the publisher's numbers of a site rise, a join that acts among them.
rises-behind : (received joined more later : ℕ) (s : SubscriberTables) → received ≤ more → (joined ≡ later) → StaysBehind received joined s → StaysBehind more later s
rises-behind received joined more later s up same f = record {
  behind = λ joins. (let b = f.behind joins in omega (arith, b, up));
  waits = f.waits;
  only_joins = f.only_joins;
  answered = λ q out below. (let a = f.answered q out (omega (arith, below, same)) in omega (arith, a, up));
  made = let m = f.made in omega (arith, m, same);
}

-- a join has all that its site closed
join-behind : (received joined : ℕ) (m : Join) (s : SubscriberTables) → s.received ≤ subscriber_last_closed s → m.generation ≡ subscriber_last_closed s → m.seq ≤ s.seq → StaysBehind received joined s → StaysBehind m.generation m.seq s
join-behind received joined m s own tells seq f = record {
  behind = λ joins. omega (arith, own, tells);
  waits = f.waits;
  only_joins = f.only_joins;
  answered = λ q out below. omega (arith, own, tells);
  made = seq;
}

tells-more : (received more : ℕ) (site : SiteId) (message : Message) → received ≤ more → TellsActed received site message → TellsActed more site message
tells-more received more site (Asks (request.Join m)) up tells = tt
tells-more received more site (Asks (request.Upload m)) up tells = tt
tells-more received more site (Asks (request.Ranges m)) up tells = tt
tells-more received more site (Asks (request.Download m)) up tells = tells
tells-more received more site (Replies (reply.Joined m)) up tells = tt
tells-more received more site (Replies (reply.Uploaded m)) up tells = omega (arith, tells, up)
tells-more received more site (Replies (reply.Ranged m)) up tells = tt
tells-more received more site (Replies (reply.Downloaded m)) up tells = omega (arith, tells, up)
tells-more received more site (Replies (reply.Refused number values)) up tells = tt

-- Worlds.

letter-of : (w : World) (number : ℕ) (letter : Letter) → Behind w → letter_at w number ≡ Some letter → TellsActed (received_by_number w.publisher letter.site.0) letter.site letter.message
letter-of w zero letter i at = absurd (grind (arith, at))
letter-of w (suc k) letter i at = all-at (λ (x : Letter). TellsActed (received_by_number w.publisher x.site.0) x.site x.message) w.pool k letter at i.letters

letter-put : (w : World) (site : SiteId) (message : Message) → TellsActed (received_by_number w.publisher site.0) site message → Behind w → Behind (record w { pool = w.pool ++ record { site = site; message = message } ∷ [] })
letter-put w site message tells i = record {
  subscribers = i.subscribers;
  letters = all-more (λ (x : Letter). TellsActed (received_by_number w.publisher x.site.0) x.site x.message) w.pool (record { site = site; message = message }) i.letters tells;
}

publisher-on : (w : World) (q : PublisherTables) → ((n : ℕ) → received_by_number w.publisher n ≤ received_by_number q n)
    → ((n : ℕ) (s : SubscriberTables) → at_number w.subscribers n ≡ Some s → StaysBehind (received_by_number q n) (joined_at q (record { 0 = n })) s) → Behind w → Behind (with_publisher q w)
publisher-on w q up each i = record {
  subscribers = each;
  letters = all-weaker (λ (x : Letter). TellsActed (received_by_number w.publisher x.site.0) x.site x.message) (λ (x : Letter). TellsActed (received_by_number q x.site.0) x.site x.message)
      (λ x tells. tells-more (received_by_number w.publisher x.site.0) (received_by_number q x.site.0) x.site x.message (up x.site.0) tells) w.pool i.letters;
}

publisher-same : (w : World) (q : PublisherTables) → SameNumbers w.publisher q → Behind w → Behind (with_publisher q w)
publisher-same w q same i = publisher-on w q (λ n. (let e = same.received n in omega (arith, e)))
    (λ n s at. rises-behind (received_by_number w.publisher n) (joined_at w.publisher (record { 0 = n })) (received_by_number q n) (joined_at q (record { 0 = n })) s (let e = same.received n in omega (arith, e)) (sym (same.joined (record { 0 = n }))) (i.subscribers n s at)) i

subscriber-at : (w : World) (s t v : SubscriberTables) (n : ℕ) (b : Bool) → same_number n s.site.0 b → StaysBehind (received_by_number w.publisher s.site.0) (joined_at w.publisher s.site) t → Behind w → at_number (put_number w.subscribers s.site.0 t) n ≡ Some v
    → StaysBehind (received_by_number w.publisher n) (joined_at w.publisher (record { 0 = n })) v
subscriber-at w s t v n true same new i found =
    let put : at_number (put_number w.subscribers s.site.0 t) n ≡ Some t = ap (λ (m : ℕ). at_number (put_number w.subscribers s.site.0 t) m) same ∙ at_put_same s.site.0 t w.subscribers in
    let is_t : Some t ≡ Some v = sym put ∙ found in
    let both : t ≡ v = cc in
    subst (λ (x : SubscriberTables). StaysBehind (received_by_number w.publisher n) (joined_at w.publisher (record { 0 = n })) x) both
    (subst (λ (m : ℕ). StaysBehind (received_by_number w.publisher m) (joined_at w.publisher (record { 0 = m })) t) (sym same) new)
subscriber-at w s t v n false differs new i found = i.subscribers n v (sym (at_put_other s.site.0 n t w.subscribers differs) ∙ found)

subscriber-on : (w : World) (s t : SubscriberTables) → t.site.0 ≡ s.site.0 → StaysBehind (received_by_number w.publisher s.site.0) (joined_at w.publisher s.site) t → Behind w → Behind (with_subscriber t w)
subscriber-on w s t site new i = subst (λ (m : ℕ). Behind (record w { subscribers = put_number w.subscribers m t })) (sym site)
    (record { subscribers = λ n v found. subscriber-at w s t v n (n == s.site.0) (number-decided n s.site.0) new i found; letters = i.letters })

-- a join acts
join-found : (m : Join) (joined : ℕ) (site : SiteId) (found : Option SubscriberTables) (s : SubscriberTables) → found ≡ Some s → JoinFits joined site m found → joined < m.seq → (m.generation ≡ subscriber_last_closed s) × (m.seq ≤ s.seq)
join-found m joined site None s e fits later = absurd fits
join-found m joined site (Some t) s e fits later = let same : t ≡ s = cc in subst (λ (x : SubscriberTables). (m.generation ≡ subscriber_last_closed x) × (m.seq ≤ x.seq)) same ((fits.2 later).1, fits.1)

abbrev OfWorlds : World → History → Type 0
OfWorlds w h = Behind w

module _ (publication : Publication) (says : Saying) where
  here-of : (w : World) (s : SubscriberTables) → Behind w → subscriber_at w s.site ≡ Some s → StaysBehind (received_by_number w.publisher s.site.0) (joined_at w.publisher s.site) s
  here-of w s i at = i.subscribers s.site.0 s at

  join-rises : (w : World) (m : Join) (n : ℕ) (b : Bool) → same_number n m.site.0 b → received_by_number w.publisher m.site.0 ≤ m.generation → received_by_number w.publisher n ≤ received_by_number (join_taken m (here w)) n
  join-rises w m n true same up = let is = joined-received m (here w) n true same in let below = subst (λ (k : ℕ). received_by_number w.publisher k ≤ m.generation) (sym same) up in omega (arith, is, below)
  join-rises w m n false differs up = let is = joined-received m (here w) n false differs in omega (arith, is)

  join-each : (w : World) (h : History) (m : Join) (n : ℕ) (s : SubscriberTables) (b : Bool) → same_number n m.site.0 b → Received w h → Behind w → at_number w.subscribers n ≡ Some s → JoinFits (joined_at w.publisher m.site) m.site m (at_number w.subscribers m.site.0) → joined_at w.publisher m.site < m.seq
      → StaysBehind (received_by_number (join_taken m (here w)) n) (joined_at (join_taken m (here w)) (record { 0 = n })) s
  join-each w h m n s true same r i at fits later =
      let there : at_number w.subscribers m.site.0 ≡ Some s = ap (λ (k : ℕ). at_number w.subscribers k) (sym same) ∙ at in
      let facts = join-found m (joined_at w.publisher m.site) m.site (at_number w.subscribers m.site.0) s there fits later in
      let received : received_by_number (join_taken m (here w)) n ≡ m.generation = joined-received m (here w) n true same in
      let joined : joined_at (join_taken m (here w)) (record { 0 = n }) ≡ m.seq = joined-joined m (here w) (record { 0 = n }) true same in
      subst (λ (k : ℕ). StaysBehind k (joined_at (join_taken m (here w)) (record { 0 = n })) s) (sym received) (subst (λ (k : ℕ). StaysBehind m.generation k s) (sym joined)
      (join-behind (received_by_number w.publisher n) (joined_at w.publisher (record { 0 = n })) m s (r.subscribers n s at).own facts.0 facts.1 (i.subscribers n s at)))
  join-each w h m n s false differs r i at fits later =
      let received : received_by_number (join_taken m (here w)) n ≡ received_by_number w.publisher n = joined-received m (here w) n false differs in
      let joined : joined_at (join_taken m (here w)) (record { 0 = n }) ≡ joined_at w.publisher (record { 0 = n }) = joined-joined m (here w) (record { 0 = n }) false differs in
      rises-behind (received_by_number w.publisher n) (joined_at w.publisher (record { 0 = n })) (received_by_number (join_taken m (here w)) n) (joined_at (join_taken m (here w)) (record { 0 = n })) s (omega (arith, received)) (sym joined) (i.subscribers n s at)

  join-kept : (w : World) (h : History) (number : ℕ) (m : Join) → Received w h → Behind w → comes w number m.site (Asks (request.Join m)) → join_acts m w.publisher ≡ true → Behind (with_publisher (join_taken m (here w)) w)
  join-kept w h number m r i at acts =
      let fits = letter-fits w h number (record { site = m.site; message = Asks (request.Join m) }) r at in
      let later : joined_at w.publisher m.site < m.seq = acts-later m w.publisher acts in
      let up : received_by_number w.publisher m.site.0 ≤ m.generation = join-up w h m (at_number w.subscribers m.site.0) r refl fits later in
      publisher-on w (join_taken m (here w)) (λ n. join-rises w m n (n == m.site.0) (number-decided n m.site.0) up)
      (λ n s found. join-each w h m n s (n == m.site.0) (number-decided n m.site.0) r i found fits later) i

  -- an upload
  if-up : (b : Bool) (to before x : ℕ) → x ≡ (if b then to else before) → (b ≡ true → before ≤ to) → before ≤ x
  if-up true to before x is up = let below = up refl in omega (arith, is, below)
  if-up false to before x is up = omega (arith, is)

  same-of : (a b : ℕ) (c : Bool) → ((a == b) && c) ≡ true → b ≡ a
  same-of a b c e = grind (arith, nat_tests, e)

  upload-rises : (w : World) (m : Upload) (acts : List Act) (judge : PublisherJudge) (n : ℕ) → received_by_number w.publisher m.site.0 < m.to → received_by_number w.publisher n ≤ received_by_number (taken_in publication judge m acts (here w)) n
  upload-rises w m acts judge n goes = if-up ((n == m.site.0) && is_some (at_number w.publisher.sites n)) m.to (received_by_number w.publisher n) (received_by_number (taken_in publication judge m acts (here w)) n) (upload-received m acts w.publisher.sites n)
      (λ e. subst (λ (k : ℕ). received_by_number w.publisher k ≤ m.to) (same-of n m.site.0 (is_some (at_number w.publisher.sites n)) e) (omega (arith, goes)))

  pub upload-sets : (w : World) (m : Upload) (acts : List Act) (judge : PublisherJudge) → is_some (at_number w.publisher.sites m.site.0) ≡ true → received_by_number (taken_in publication judge m acts (here w)) m.site.0 ≡ m.to
  upload-sets w m acts judge known = upload-received m acts w.publisher.sites m.site.0
      ∙ ap (λ (b : Bool). if b then m.to else received_by_number w.publisher m.site.0) (let all : ((m.site.0 == m.site.0) && is_some (at_number w.publisher.sites m.site.0)) ≡ true = grind (arith, number-itself m.site.0, known) in all)

  upload-kept : (w : World) (m : Upload) (acts : List Act) (judge : PublisherJudge) → Behind w → received_by_number w.publisher m.site.0 < m.to → Behind (with_publisher (taken_in publication judge m acts (here w)) w)
  upload-kept w m acts judge i goes =
      let q : PublisherTables = taken_in publication judge m acts (here w) in
      publisher-on w q (λ n. upload-rises w m acts judge n goes)
      (λ n s at. rises-behind (received_by_number w.publisher n) (joined_at w.publisher (record { 0 = n })) (received_by_number q n) (joined_at q (record { 0 = n })) s (upload-rises w m acts judge n goes) (sym (upload-joined m acts w.publisher.sites n)) (i.subscribers n s at)) i

  told-most : (to received after : ℕ) → to ≤ after → received ≤ after → max to received ≤ after
  told-most to received after first second = grind (arith, nat_tests, first, second)

  not-above : (judge : PublisherJudge) (m : Upload) → brings_news judge m ≡ false → m.to ≤ judge.received m.site.0
  not-above judge m none = grind (arith, nat_tests, none)

  -- a local change
  change-kept : (w : World) (s : SubscriberTables) (change : Change) (d : Value × List (ℕ × Holder)) → Behind w → subscriber_at w s.site ≡ Some s → subscriber_local_refusal publication change s ≡ None → Behind (with_subscriber (subscriber_made_locally publication change d (subscriber_at_moment w.moment s)).0 w)
  change-kept w s change d i at fine =
      let key : Key = key_of (subscriber_next_dot s) change in
      let u : SubscriberTables = record (subscriber_at_moment w.moment s) { changes = s.changes + 1; held = d.1 } in
      let found : Option Version = version_after publication (subscriber_next_dot s) d.0 change (subscriber_version_at s key) in
      let joins : s.is_joined ≡ true = joined-flag s (first-none (is_joining s) _ fine).0 in
      let f = here-of w s i at in
      subscriber-on w s (with_version_if key found u) (version-site key found u) (version-goes (received_by_number w.publisher s.site.0) (joined_at w.publisher s.site) key found s u joins refl refl refl (f.behind joins) f) i

  -- a message
  message-kept : (w : World) (s t : SubscriberTables) (message : Message) → Behind w → t.site.0 ≡ s.site.0 → StaysBehind (received_by_number w.publisher s.site.0) (joined_at w.publisher s.site) t → TellsActed (received_by_number w.publisher s.site.0) s.site message
      → Behind (record (with_subscriber t w) { pool = w.pool ++ record { site = s.site; message = message } ∷ [] })
  message-kept w s t message i site new tells = letter-put (with_subscriber t w) s.site message tells (subscriber-on w s t site new i)

  joined-now : (s : SubscriberTables) → sending_refusal s ≡ None → (sent : Outstanding) → s.is_joined ≡ false → sent ≡ ask.Join
  joined-now s fine sent none = let joins : s.is_joined ≡ true = joined-flag s (first-none (is_joining s) _ fine).0 in absurd (grind (arith, none, joins))

  pub behind-keeps : StepsKeep publication says Received OfWorlds
  behind-keeps = record {
    moment = λ w h now r i. record { subscribers = i.subscribers; letters = i.letters };
    own_change = λ w h change d r i fine is. (let q : PublisherTables = (made_locally publication (by_past h (pasts_with h 0)) change d (here w)).0 in publisher-same w q (same-sites w.publisher q refl) i);
    own_closing = λ w h r i. publisher-same w (tables_after_close (here w)) (same-sites w.publisher (tables_after_close (here w)) refl) i;
    forgetting = λ w h r i. (let q : PublisherTables = (purge publication w.moment w.publisher).0 in publisher-same w q (same-sites w.publisher q refl) i);
    same = λ w h s r i at. subscriber-on w s s refl (here-of w s i at) i;
    subscriber_change = λ w h s change d r i at named fine is. change-kept w s change d i at fine;
    subscriber_closing = λ w h s r i at. subscriber-on w s (subscriber_closed (subscriber_at_moment w.moment s)) refl (closing-behind (received_by_number w.publisher s.site.0) (joined_at w.publisher s.site) w.moment s (r.subscribers s.site.0 s at).idle (here-of w s i at)) i;
    anew = λ w h s r i at. (let judge : SubscriberJudge = by_made h s.site in
        subscriber-on w s (result_of_reinit judge (subscriber_at_moment w.moment s)).0 refl (anew-behind (received_by_number w.publisher s.site.0) (joined_at w.publisher s.site) judge w.moment s (here-of w s i at)) i);
    sends_join = λ w h s r i at joining. message-kept w s (with_message ask.Join s) (Asks (request.Join (join_of s))) i refl (message-behind (received_by_number w.publisher s.site.0) (joined_at w.publisher s.site) ask.Join s (λ none. refl) (here-of w s i at)) tt;
    sends_upload = λ w h s r i at fine. (let judge : SubscriberJudge = by_made h s.site in let c : SubscriberTables = subscriber_closed (subscriber_at_moment w.moment s) in let sent : Outstanding = ask.Upload c.received (upload_end judge c) in
        message-kept w s (upload_sent judge c).0 (Asks (request.Upload (upload_sent judge c).1)) i refl
        (message-behind (received_by_number w.publisher s.site.0) (joined_at w.publisher s.site) sent c (joined-now s fine sent) (closing-behind (received_by_number w.publisher s.site.0) (joined_at w.publisher s.site) w.moment s (r.subscribers s.site.0 s at).idle (here-of w s i at))) tt);
    sends_ranges = λ w h s r i at fine. message-kept w s (with_message ask.Ranges s) (Asks (request.Ranges (record { site = s.site; seq = s.seq + 1; wants = map want_of s.held }))) i refl
        (message-behind (received_by_number w.publisher s.site.0) (joined_at w.publisher s.site) ask.Ranges s (joined-now s fine ask.Ranges) (here-of w s i at)) tt;
    sends_ask = λ w h s r i at fine. message-kept w s (with_message (ask.Download s.watermark) s) (Asks (request.Download (record { site = s.site; seq = s.seq + 1; from = s.watermark }))) i refl
        (message-behind (received_by_number w.publisher s.site.0) (joined_at w.publisher s.site) (ask.Download s.watermark) s (joined-now s fine (ask.Download s.watermark)) (here-of w s i at)) refl;
    joins = λ w h number m r i at fine acts. letter-put (with_publisher (join_taken m (here w)) w) m.site (Replies (reply.Joined (record { seq = m.seq }))) tt (join-kept w h number m r i at acts);
    joins_again = λ w h number m r i at acts. letter-put (with_publisher (here w) w) m.site (Replies (reply.Joined (record { seq = m.seq }))) tt (publisher-same w (here w) (same-sites w.publisher (here w) refl) i);
    uploads = λ w h number m r i at fine news. (let judge : PublisherJudge = by_past h (pasts_with h number) in let acts : List Act = acts_in publication says judge m w in let q : PublisherTables = taken_in publication judge m acts (here w) in let v : World = uploaded_world publication says judge m q w in
        let goes : received_by_number w.publisher m.site.0 < m.to = news-above w h r (pasts_with h number) m news in
        let sets = upload-sets w m acts judge (upload-known publication judge w.moment m w.publisher fine).0 in
        let is = received-is h w.publisher m.site.0 r.done in
        letter-put v m.site (Replies (reply.Uploaded (told_by judge m))) (told-most m.to (judge.received m.site.0) (received_by_number q m.site.0) (omega (arith, sets)) (omega (arith, sets, is, goes)))
        (behind-tallied (with_publisher q w) v.tallies (upload-kept w m acts judge i goes)));
    uploads_again = λ w h number m r i at none. (let judge : PublisherJudge = by_past h (pasts_with h number) in let v : World = uploaded_world publication says judge m (here w) w in
        let is = received-is h w.publisher m.site.0 r.done in let low = not-above judge m none in
        letter-put v m.site (Replies (reply.Uploaded (told_by judge m))) (told-most m.to (judge.received m.site.0) (received_by_number w.publisher m.site.0) (omega (arith, low, is)) (omega (arith, is)))
        (behind-tallied (with_publisher (here w) w) v.tallies (publisher-same w (here w) (same-sites w.publisher (here w) refl) i)));
    answers_ranges = λ w h site m r i. (let q : PublisherTables = with_grants (plans publication m w.publisher) (here w) in
        letter-put (with_publisher q w) site (Replies (reply.Ranged (reply_to_ranges m (plans publication m w.publisher)))) tt (publisher-same w q (same-sites w.publisher q refl) i));
    answers_ask = λ w h number site m r i at fine. (let q : PublisherTables = tables_after_download m (here w) in
        let same : m.site ≡ site = letter-of w number (record { site = site; message = Asks (request.Download m) }) i at in
        let is : received_by_number q site.0 ≡ received_by_number w.publisher site.0 = (asked-same m (here w)).received site.0 in
        let told = received-is h w.publisher m.site.0 r.done in
        let here_is = ap (λ (x : SiteId). received_by_number w.publisher x.0) same in
        letter-put (with_publisher q w) site (Replies (reply.Downloaded (reply_to publication (by_past h (pasts_with h number)) m q))) (omega (arith, told, here_is, is))
        (publisher-same w q (record { received = λ n. (asked-same m (here w)).received n; number = λ n. (asked-same m (here w)).number n; joined = λ x. (asked-same m (here w)).joined x }) i));
    replies = λ w h s number m sent r i at there out none. (let judge : SubscriberJudge = by_made h s.site in
        let fits = letter-fits w h number (record { site = s.site; message = Replies m }) r there in
        let tells = letter-of w number (record { site = s.site; message = Replies m }) i there in
        subscriber-on w s (tables_after_reply judge w.moment m s) (reply-site judge w.moment m s)
        (reply-behind publication (received_by_number w.publisher s.site.0) (joined_at w.publisher s.site) judge w.moment sent s.site m s none out
        (subst (λ (found : Option SubscriberTables). MessageFits (joined_at w.publisher s.site) s.site found (Replies m)) at fits) tells (here-of w s i at)) i);
  }

-- how it begins
behind-begins : (publication : Publication) (tallies : List ℕ) → Behind (empty_world publication tallies)
behind-begins publication tallies = record {
  subscribers = λ n s at. begins-with publication (λ (k : ℕ) (t : SubscriberTables). StaysBehind 0 0 t) (λ k site keyed. record {
    behind = λ joins. omega arith;
    waits = λ none. refl;
    only_joins = λ q sent none out. absurd (grind (arith, out));
    answered = λ q out up. omega arith;
    made = omega arith;
  }) n s at;
  letters = tt;
}

pub behind-by-actions : (publication : Publication) (says : Saying) (tallies : List ℕ) (slips : Slips) (actions : List Action)
    → (let m : Model = model_behind_actions publication says tallies slips actions in Received m.world m.history × Behind m.world)
behind-by-actions publication says tallies slips actions = failing-actions-keep publication (model publication says) (λ (m : Model). Received m.world m.history × Behind m.world)
    (λ m action i. (model-fine publication says m action i.0, step-keeps publication says Received OfWorlds (λ w h r. r) (behind-keeps publication says) m action i.0 i.1)) (λ m others i. (received-tallied m.world others m.history i.0, behind-tallied m.world others i.1)) actions (faulty (empty_model publication tallies) slips)
    (begins publication tallies, behind-begins publication tallies)

pub behind-always : (publication : Publication) (says : Saying) (tallies : List ℕ) (slips : Slips) (events : List Event)
    → (let m : Model = model_behind publication says tallies slips events in Received m.world m.history × Behind m.world)
behind-always publication says tallies slips events = of-events publication says tallies slips events (λ (m : Model). Received m.world m.history × Behind m.world) (behind-by-actions publication says tallies slips)
