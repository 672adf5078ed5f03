-- Every step keeps that a join that can still act was made after every upload of its site.
use Rattle.std.specs.Prelude.{◌≡◌, ◌≤◌, ◌==◌, ◌++◌, ◌+◌, ℕ, List, [], ◌∷◌, Bool, true, false, Option, Some, None, refl, if◌then◌else◌, map, max}
use Rattle.std.specs.List.{AllByRecursion}
use Rattle.std.proofs.Common.{arith, subst, sym, ap, ◌∙◌}
use Rattle.std.proofs.lemmas.Bool.Decides.{nat_tests}
use Rattle.merge_types.specs.declared.identifiers.Moment.{Moment}
use Rattle.merge_types.specs.declared.identifiers.SiteId.{SiteId}
use Rattle.merge_units.specs.declared.version.Version.{Version}
use Rattle.merge_schema.specs.declared.publication.Publication.{Publication}
use Rattle.merge_batch.specs.declared.reply.Reply.{Reply}
use Rattle.merge_batch.specs.declared.reply.Reply.TheVariants as reply
use Rattle.merge_batch.specs.declared.request.Outstanding.TheVariants as ask
use Rattle.merge_batch.specs.declared.request.Request.TheVariants as request
use Rattle.merge_model.specs.Publisher.Acts.{Act}
use Rattle.merge_model.specs.Judge.ByHistory.{by_made, by_past}
use Rattle.merge_model.specs.Tables.Changes.{key_of, version_after}
use Rattle.merge_model.specs.History.{History, pasts_with}
use Rattle.merge_model.specs.Judge.{PublisherJudge, SubscriberJudge}
use Rattle.merge_model.specs.Tables.Keys.{at_number, put_number}
use Rattle.merge_model.specs.Publisher.{tables_after_close}
use Rattle.merge_model.specs.Publisher.PublisherDownload.{reply_to, tables_after_download}
use Rattle.merge_model.specs.Publisher.PublisherJoin.{join_taken}
use Rattle.merge_model.specs.Publisher.PublisherLocal.{made_locally}
use Rattle.merge_model.specs.Publisher.PublisherPurge.{purge}
use Rattle.merge_model.specs.Publisher.PublisherRanges.{plans, reply_to_ranges, with_grants}
use Rattle.merge_model.specs.Publisher.PublisherUpload.{taken_in}
use Rattle.merge_model.specs.Subscriber.Reinit.{result_of_reinit}
use Rattle.merge_model.specs.Subscriber.Sending.{join_of, upload_sent, want_of, with_message}
use Rattle.merge_model.specs.Subscriber.{is_joining, subscriber_at_moment, subscriber_closed, subscriber_next_dot, subscriber_version_at, with_version_if}
use Rattle.merge_types.specs.declared.row_key.RowKey.{RowKey as Key}
use Rattle.merge_model.specs.Tables.{PublisherTables, SubscriberTables}
use Rattle.merge_model.specs.Subscriber.Taking.{tables_after_reply}
use Rattle.merge_model.specs.World.{Saying, World, empty_world, subscriber_at, with_publisher, with_subscriber}
use Rattle.merge_model.specs.declared.letter.Message.TheVariants.{Asks, Replies}
use Rattle.merge_model.specs.declared.letter.Letter.{Letter}
use Rattle.merge_model.specs.declared.letter.Message.{Message}
use Rattle.merge_laws.proofs.Runs.Tallied.{order-tallied}
use Rattle.merge_laws.specs.Invariants.LetterOrder.{JoinIsLater, LetterOrder, last_upload, upload_seq}
use Rattle.merge_laws.specs.Facts.Received.{LetterFits, MessageFits, Received, joined_at}
use Rattle.merge_laws.proofs.Received.Arrivals.{joined-rises}
use Rattle.merge_model.proofs.Runs.Refusals.{first-none}
use Rattle.merge_model.proofs.Lists.Finding.{all-more, all-weaker, at_put_other, at_put_same}
use Rattle.merge_model.proofs.Lists.{all-both}
use Rattle.merge_laws.proofs.Received.MessageFacts.{acts-later}
use Rattle.merge_laws.proofs.Received.Publishing.{SameNumbers, asked-same, same-sites, upload-joined}
use Rattle.merge_laws.proofs.Received.Steps.{joined-flag}
use Rattle.merge_laws.proofs.Received.Subscribing.{number-decided, same_number}
use Rattle.merge_laws.proofs.Unsent.UnsentKept.{reply-site, version-site}
use Rattle.merge_laws.proofs.Walking.{StepsKeep, acts_in, here, told_by, uploaded_world}

-- Pools.

last-more : (n : ℕ) (pool : List Letter) (x : Letter) → last_upload n (pool ++ x ∷ []) ≡ max (last_upload n pool) (if x.site.0 == n then upload_seq x.message else 0)
last-more n [] x = grind (arith, nat_tests)
last-more n (letter ∷ pool) x = grind (arith, nat_tests, last-more n pool x)

last-other : (n : ℕ) (pool : List Letter) (x : Letter) → upload_seq x.message ≡ 0 → last_upload n (pool ++ x ∷ []) ≡ last_upload n pool
last-other n pool x none = grind (arith, nat_tests, last-more n pool x, none)

-- each upload of a site has a number up to the greatest one
pub all-up-to : (n most : ℕ) (pool : List Letter) → last_upload n pool ≤ most → AllByRecursion (λ (x : Letter). x.site.0 ≡ n → upload_seq x.message ≤ most) pool
all-up-to n most [] up = tt
all-up-to n most (x ∷ pool) up = (λ same. grind (arith, nat_tests, up, same), all-up-to n most pool (grind (arith, nat_tests, up)))

later-weaker : (joined more last less : ℕ) (message : Message) → joined ≤ more → less ≤ last → JoinIsLater joined last message → JoinIsLater more less message
later-weaker joined more last less (Asks (request.Join m)) up down later = λ acts. (let is = later (omega (arith, up, acts)) in omega (arith, is, down))
later-weaker joined more last less (Asks (request.Upload m)) up down later = tt
later-weaker joined more last less (Asks (request.Ranges m)) up down later = tt
later-weaker joined more last less (Asks (request.Download m)) up down later = tt
later-weaker joined more last less (Replies m) up down later = tt

-- where an upload is made, the site has joined, so that none of its joins can act
joined-none : (joined last more : ℕ) (site : SiteId) (s : SubscriberTables) (found : Option SubscriberTables) (message : Message) → found ≡ Some s → s.is_joined ≡ true → MessageFits joined site found message → JoinIsLater joined last message → JoinIsLater joined more message
joined-none joined last more site s None (Asks (request.Join m)) is joins fits later = absurd fits
joined-none joined last more site s (Some t) (Asks (request.Join m)) is joins fits later = λ acts. (let same : t ≡ s = cc in let waits : t.is_joined ≡ false = (fits.2 acts).0 in absurd (grind (arith, ap (λ (x : SubscriberTables). x.is_joined) same, waits, joins)))
joined-none joined last more site s found (Asks (request.Upload m)) is joins fits later = tt
joined-none joined last more site s found (Asks (request.Ranges m)) is joins fits later = tt
joined-none joined last more site s found (Asks (request.Download m)) is joins fits later = tt
joined-none joined last more site s found (Replies m) is joins fits later = tt

-- Worlds.

publisher-on : (w : World) (q : PublisherTables) → ((site : SiteId) → joined_at w.publisher site ≤ joined_at q site) → LetterOrder w → LetterOrder (with_publisher q w)
publisher-on w q up i = record {
  sent = i.sent;
  joins = all-weaker (λ (x : Letter). JoinIsLater (joined_at w.publisher x.site) (last_upload x.site.0 w.pool) x.message) (λ (x : Letter). JoinIsLater (joined_at q x.site) (last_upload x.site.0 w.pool) x.message)
      (λ x later. later-weaker (joined_at w.publisher x.site) (joined_at q x.site) (last_upload x.site.0 w.pool) (last_upload x.site.0 w.pool) x.message (up x.site) (omega arith) later) w.pool i.joins;
}

publisher-same : (w : World) (q : PublisherTables) → SameNumbers w.publisher q → LetterOrder w → LetterOrder (with_publisher q w)
publisher-same w q same i = publisher-on w q (λ site. (let e = same.joined site in omega (arith, e))) i

seq-at : (w : World) (s t v : SubscriberTables) (n : ℕ) (b : Bool) → same_number n s.site.0 b → subscriber_at w s.site ≡ Some s → s.seq ≤ t.seq → LetterOrder w → at_number (put_number w.subscribers s.site.0 t) n ≡ Some v → last_upload n w.pool ≤ v.seq
seq-at w s t v n true same at up i found =
    let put : at_number (put_number w.subscribers s.site.0 t) n ≡ Some t = ap (λ (m : ℕ). at_number (put_number w.subscribers s.site.0 t) m) same ∙ at_put_same s.site.0 t w.subscribers in
    let is_t : Some t ≡ Some v = sym put ∙ found in
    let both : t ≡ v = cc in
    let was : last_upload n w.pool ≤ s.seq = i.sent n s (ap (λ (m : ℕ). at_number w.subscribers m) same ∙ at) in
    subst (λ (x : SubscriberTables). last_upload n w.pool ≤ x.seq) both (omega (arith, was, up))
seq-at w s t v n false differs at up i found = i.sent n v (sym (at_put_other s.site.0 n t w.subscribers differs) ∙ found)

subscriber-on : (w : World) (s t : SubscriberTables) → subscriber_at w s.site ≡ Some s → t.site.0 ≡ s.site.0 → s.seq ≤ t.seq → LetterOrder w → LetterOrder (with_subscriber t w)
subscriber-on w s t at site up i = subst (λ (m : ℕ). LetterOrder (record w { subscribers = put_number w.subscribers m t })) (sym site)
    (record { sent = λ n v found. seq-at w s t v n (n == s.site.0) (number-decided n s.site.0) at up i found; joins = i.joins })

-- a message that is no upload
post-other : (w : World) (site : SiteId) (message : Message) → upload_seq message ≡ 0 → JoinIsLater (joined_at w.publisher site) (last_upload site.0 w.pool) message → LetterOrder w → LetterOrder (record w { pool = w.pool ++ record { site = site; message = message } ∷ [] })
post-other w site message none later i =
    let letter : Letter = record { site = site; message = message } in
    let same : (n : ℕ) → last_upload n (w.pool ++ letter ∷ []) ≡ last_upload n w.pool = λ n. last-other n w.pool letter none in record {
      sent = λ n s at. (let was = i.sent n s at in let e = same n in omega (arith, was, e));
      joins = all-weaker (λ (x : Letter). JoinIsLater (joined_at w.publisher x.site) (last_upload x.site.0 w.pool) x.message) (λ (x : Letter). JoinIsLater (joined_at w.publisher x.site) (last_upload x.site.0 (w.pool ++ letter ∷ [])) x.message)
          (λ x is. (let e = same x.site.0 in later-weaker (joined_at w.publisher x.site) (joined_at w.publisher x.site) (last_upload x.site.0 w.pool) (last_upload x.site.0 (w.pool ++ letter ∷ [])) x.message (omega arith) (omega (arith, e)) is))
          (w.pool ++ letter ∷ []) (all-more (λ (x : Letter). JoinIsLater (joined_at w.publisher x.site) (last_upload x.site.0 w.pool) x.message) w.pool letter i.joins later);
    }

-- an upload of a site that has joined
upload-sent : (w : World) (s t : SubscriberTables) (m : ℕ) (message : Message) (n : ℕ) (v : SubscriberTables) (b : Bool) → same_number n s.site.0 b → subscriber_at w s.site ≡ Some s → t.seq ≡ s.seq + 1 → upload_seq message ≡ s.seq + 1 → LetterOrder w
    → at_number (put_number w.subscribers s.site.0 t) n ≡ Some v → last_upload n (w.pool ++ record { site = s.site; message = message } ∷ []) ≤ v.seq
upload-sent w s t m message n v true same at up seq i found =
    let put : at_number (put_number w.subscribers s.site.0 t) n ≡ Some t = ap (λ (k : ℕ). at_number (put_number w.subscribers s.site.0 t) k) same ∙ at_put_same s.site.0 t w.subscribers in
    let is_t : Some t ≡ Some v = sym put ∙ found in
    let both : t ≡ v = cc in
    let was : last_upload n w.pool ≤ s.seq = i.sent n s (ap (λ (k : ℕ). at_number w.subscribers k) same ∙ at) in
    let more = last-more n w.pool (record { site = s.site; message = message }) in
    subst (λ (x : SubscriberTables). last_upload n (w.pool ++ record { site = s.site; message = message } ∷ []) ≤ x.seq) both (grind (arith, nat_tests, was, more, up, seq))
upload-sent w s t m message n v false differs at up seq i found =
    let was = i.sent n v (sym (at_put_other s.site.0 n t w.subscribers differs) ∙ found) in
    let more = last-more n w.pool (record { site = s.site; message = message }) in
    grind (arith, nat_tests, was, more, differs)

upload-joins : (w : World) (h : History) (s : SubscriberTables) (message : Message) (x : Letter) (b : Bool) → same_number x.site.0 s.site.0 b → subscriber_at w s.site ≡ Some s → s.is_joined ≡ true → LetterFits w.subscribers w.publisher x
    → JoinIsLater (joined_at w.publisher x.site) (last_upload x.site.0 w.pool) x.message → JoinIsLater (joined_at w.publisher x.site) (last_upload x.site.0 (w.pool ++ record { site = s.site; message = message } ∷ [])) x.message
upload-joins w h s message x true same at joins fits later =
    joined-none (joined_at w.publisher x.site) (last_upload x.site.0 w.pool) (last_upload x.site.0 (w.pool ++ record { site = s.site; message = message } ∷ [])) x.site s (at_number w.subscribers x.site.0) x.message (ap (λ (k : ℕ). at_number w.subscribers k) same ∙ at) joins fits later
upload-joins w h s message x false differs at joins fits later =
    let more = last-more x.site.0 w.pool (record { site = s.site; message = message }) in
    later-weaker (joined_at w.publisher x.site) (joined_at w.publisher x.site) (last_upload x.site.0 w.pool) (last_upload x.site.0 (w.pool ++ record { site = s.site; message = message } ∷ [])) x.message (omega arith) (grind (arith, nat_tests, more, differs)) later

post-upload : (w : World) (h : History) (s t : SubscriberTables) (message : Message) → Received w h → subscriber_at w s.site ≡ Some s → s.is_joined ≡ true → t.site.0 ≡ s.site.0 → t.seq ≡ s.seq + 1 → upload_seq message ≡ s.seq + 1 → ((joined last : ℕ) → JoinIsLater joined last message) → LetterOrder w
    → LetterOrder (record (with_subscriber t w) { pool = w.pool ++ record { site = s.site; message = message } ∷ [] })
post-upload w h s t message r at joins site up seq no_join i =
    let letter : Letter = record { site = s.site; message = message } in
    subst (λ (m : ℕ). LetterOrder (record w { subscribers = put_number w.subscribers m t; pool = w.pool ++ letter ∷ [] })) (sym site) (record {
      sent = λ n v found. upload-sent w s t 0 message n v (n == s.site.0) (number-decided n s.site.0) at up seq i found;
      joins = all-more (λ (x : Letter). JoinIsLater (joined_at w.publisher x.site) (last_upload x.site.0 (w.pool ++ letter ∷ [])) x.message) w.pool letter
          (all-both (LetterFits w.subscribers w.publisher) (λ (x : Letter). JoinIsLater (joined_at w.publisher x.site) (last_upload x.site.0 w.pool) x.message) (λ (x : Letter). JoinIsLater (joined_at w.publisher x.site) (last_upload x.site.0 (w.pool ++ letter ∷ [])) x.message)
          (λ x fits later. upload-joins w h s message x (x.site.0 == s.site.0) (number-decided x.site.0 s.site.0) at joins fits later) w.pool r.letters i.joins)
          (no_join (joined_at w.publisher s.site) (last_upload s.site.0 (w.pool ++ letter ∷ [])));
    })

-- Numbers of messages do not fall.

version-seq : (key : Key) (found : Option Version) (u : SubscriberTables) → (with_version_if key found u).seq ≡ u.seq
version-seq key None u = refl
version-seq key (Some version) u = refl

reply-seq : (judge : SubscriberJudge) (now : Moment) (m : Reply) (s : SubscriberTables) → (tables_after_reply judge now m s).seq ≡ s.seq
reply-seq judge now (reply.Joined m) s = refl
reply-seq judge now (reply.Uploaded m) s = refl
reply-seq judge now (reply.Ranged m) s = refl
reply-seq judge now (reply.Downloaded m) s = refl
reply-seq judge now (reply.Refused number values) s = refl

abbrev OfWorlds : World → History → Type 0
OfWorlds w h = LetterOrder w

module _ (publication : Publication) (says : Saying) where
  pub order-keeps : StepsKeep publication says Received OfWorlds
  order-keeps = record {
    moment = λ w h now r i. record { sent = i.sent; joins = i.joins };
    own_change = λ w h change d r i fine is. (let q : PublisherTables = (made_locally publication (by_past h (pasts_with h 0)) change d (here w)).0 in publisher-same w q (same-sites w.publisher q refl) i);
    own_closing = λ w h r i. publisher-same w (tables_after_close (here w)) (same-sites w.publisher (tables_after_close (here w)) refl) i;
    forgetting = λ w h r i. (let q : PublisherTables = (purge publication w.moment w.publisher).0 in publisher-same w q (same-sites w.publisher q refl) i);
    same = λ w h s r i at. subscriber-on w s s at refl (omega arith) i;
    subscriber_change = λ w h s change d r i at named fine is. (
        let key : Key = key_of (subscriber_next_dot s) change in
        let u : SubscriberTables = record (subscriber_at_moment w.moment s) { changes = s.changes + 1; held = d.1 } in
        let found : Option Version = version_after publication (subscriber_next_dot s) d.0 change (subscriber_version_at s key) in
        subscriber-on w s (with_version_if key found u) at (version-site key found u) (let e = version-seq key found u in omega (arith, e)) i);
    subscriber_closing = λ w h s r i at. subscriber-on w s (subscriber_closed (subscriber_at_moment w.moment s)) at refl (omega arith) i;
    anew = λ w h s r i at. subscriber-on w s (result_of_reinit (by_made h s.site) (subscriber_at_moment w.moment s)).0 at refl (omega arith) i;
    sends_join = λ w h s r i at joining. (
        let t : SubscriberTables = with_message ask.Join s in
        post-other (with_subscriber t w) s.site (Asks (request.Join (join_of s))) refl (λ acts. (let was = i.sent s.site.0 s at in omega (arith, was))) (subscriber-on w s t at refl (omega arith) i));
    sends_upload = λ w h s r i at fine. (
        let made = upload_sent (by_made h s.site) (subscriber_closed (subscriber_at_moment w.moment s)) in
        post-upload w h s made.0 (Asks (request.Upload made.1)) r at (joined-flag s (first-none (is_joining s) _ fine).0) refl refl refl (λ joined last. tt) i);
    sends_ranges = λ w h s r i at fine. post-other (with_subscriber (with_message ask.Ranges s) w) s.site (Asks (request.Ranges (record { site = s.site; seq = s.seq + 1; wants = map want_of s.held }))) refl tt (subscriber-on w s (with_message ask.Ranges s) at refl (omega arith) i);
    sends_ask = λ w h s r i at fine. post-other (with_subscriber (with_message (ask.Download s.watermark) s) w) s.site (Asks (request.Download (record { site = s.site; seq = s.seq + 1; from = s.watermark }))) refl tt (subscriber-on w s (with_message (ask.Download s.watermark) s) at refl (omega arith) i);
    joins = λ w h number m r i at fine acts. post-other (with_publisher (join_taken m (here w)) w) m.site (Replies (reply.Joined (record { seq = m.seq }))) refl tt
        (publisher-on w (join_taken m (here w)) (λ site. joined-rises m (here w) site (site.0 == m.site.0) (number-decided site.0 m.site.0) (acts-later m w.publisher acts)) i);
    joins_again = λ w h number m r i at acts. post-other (with_publisher (here w) w) m.site (Replies (reply.Joined (record { seq = m.seq }))) refl tt (publisher-same w (here w) (same-sites w.publisher (here w) refl) i);
    uploads = λ w h number m r i at fine news. (
        let judge : PublisherJudge = by_past h (pasts_with h number) in
        let acts : List Act = acts_in publication says judge m w in
        let q : PublisherTables = taken_in publication judge m acts (here w) in
        post-other (uploaded_world publication says judge m q w) m.site (Replies (reply.Uploaded (told_by judge m))) refl tt
        (order-tallied (with_publisher q w) (uploaded_world publication says judge m q w).tallies (publisher-on w q (λ site. (let e = upload-joined m acts w.publisher.sites site.0 in omega (arith, e))) i)));
    uploads_again = λ w h number m r i at none. (
        let judge : PublisherJudge = by_past h (pasts_with h number) in
        post-other (uploaded_world publication says judge m (here w) w) m.site (Replies (reply.Uploaded (told_by judge m))) refl tt
        (order-tallied (with_publisher (here w) w) (uploaded_world publication says judge m (here w) w).tallies (publisher-same w (here w) (same-sites w.publisher (here w) refl) i)));
    answers_ranges = λ w h site m r i. (let q : PublisherTables = with_grants (plans publication m w.publisher) (here w) in
        post-other (with_publisher q w) site (Replies (reply.Ranged (reply_to_ranges m (plans publication m w.publisher)))) refl tt (publisher-same w q (same-sites w.publisher q refl) i));
    answers_ask = λ w h number site m r i at fine. (let q : PublisherTables = tables_after_download m (here w) in let same = asked-same m (here w) in
        post-other (with_publisher q w) site (Replies (reply.Downloaded (reply_to publication (by_past h (pasts_with h number)) m q))) refl tt (publisher-on w q (λ x. (let e = same.joined x in omega (arith, e))) i));
    replies = λ w h s number m sent r i at there out none. subscriber-on w s (tables_after_reply (by_made h s.site) w.moment m s) at (reply-site (by_made h s.site) w.moment m s) (let e = reply-seq (by_made h s.site) w.moment m s in omega (arith, e)) i;
  }

pub order-begins : (publication : Publication) (tallies : List ℕ) → LetterOrder (empty_world publication tallies)
order-begins publication tallies = record { sent = λ n s at. omega arith; joins = tt }
