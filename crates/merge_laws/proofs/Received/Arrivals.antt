-- Joins and uploads that come to the publisher.
use Rattle.std.specs.Prelude.{◌≡◌, ◌≤◌, ◌<◌, ◌==◌, ◌&&◌, ◌||◌, ℕ, List, [], Bool, true, false, Option, Some, None, refl, if◌then◌else◌, nat_le, nat_lt, is_some, unwrap_or}
use Rattle.std.proofs.Common.{arith, subst, sym, ap, ◌∙◌}
use Rattle.std.proofs.lemmas.Bool.Decides.{nat_tests}
use Rattle.merge_types.specs.declared.identifiers.SiteId.{SiteId}
use Rattle.merge_types.specs.declared.identifiers.Moment.{Moment}
use Rattle.merge_gens.specs.declared.sites.SiteState.{SiteState}
use Rattle.merge_batch.specs.declared.refusal.Refusal.{Refusal}
use Rattle.merge_batch.specs.declared.refusal.Refusal.TheVariants.{Gap}
use Rattle.merge_batch.specs.declared.request.Join.{Join}
use Rattle.merge_batch.specs.declared.request.Upload.{Upload}
use Rattle.merge_batch.specs.declared.request.Request.TheVariants as request
use Rattle.merge_batch.specs.declared.reply.Reply.TheVariants as reply
use Rattle.merge_schema.specs.declared.publication.Publication.{Publication}
use Rattle.merge_model.specs.Tables.{PublisherTables, SubscriberTables}
use Rattle.merge_model.specs.Tables.Keys.{at_number}
use Rattle.merge_model.specs.Tables.Refusals.{refused_if}
use Rattle.merge_model.specs.Judge.{PublisherJudge}
use Rattle.merge_model.specs.Judge.ByNumbers.{received_by_number}
use Rattle.merge_model.specs.Publisher.Acts.{Act}
use Rattle.merge_model.specs.Publisher.{no_state, site_refusal, state_refusal, unknown_site, later}
use Rattle.merge_model.specs.Publisher.PublisherJoin.{join_taken, join_acts}
use Rattle.merge_model.specs.Publisher.PublisherUpload.{upload_refusal}
use Rattle.merge_model.specs.Subscriber.{subscriber_last_closed}
use Rattle.merge_model.specs.World.{World, with_publisher}
use Rattle.merge_model.specs.declared.letter.Message.{Message}
use Rattle.merge_model.specs.declared.letter.Message.TheVariants.{Asks, Replies}
use Rattle.merge_model.specs.History.{History, is_done}
use Rattle.merge_model.specs.History.Noting
use Rattle.merge_laws.specs.Facts.Received.{joined_at, MessageFits, LetterFits, SubscriberFits, DoneIsReceived, Received}
use Rattle.merge_model.proofs.Runs.Refusals.{first-none, state-known}
use Rattle.merge_model.proofs.Lists.Finding.{all-weaker}
use Rattle.merge_laws.proofs.Received.MessageFacts.{acts-later}
use Rattle.merge_laws.proofs.Received.Publishing.{done-joins, joined-received, joined-joined, upload-received, upload-joined, number_in, sites_taken}
use Rattle.merge_laws.proofs.Received.Subscribing.{number-decided, same_number}
use Rattle.merge_model.proofs.Lists.Tests.{numbers-same, numbers-turned}

-- A message says less where later joins have acted.
message-later : (joined after : ℕ) (site : SiteId) (found : Option SubscriberTables) (message : Message) → joined ≤ after → MessageFits joined site found message → MessageFits after site found message
message-later joined after site None (Asks (request.Join m)) up fits = fits
message-later joined after site (Some s) (Asks (request.Join m)) up fits = (fits.0, fits.1, λ later. fits.2 (omega (arith, later)))
message-later joined after site found (Asks (request.Upload m)) up fits = fits
message-later joined after site found (Asks (request.Ranges m)) up fits = tt
message-later joined after site found (Asks (request.Download m)) up fits = tt
message-later joined after site found (Replies (reply.Joined m)) up fits = omega (arith, fits)
message-later joined after site found (Replies (reply.Uploaded m)) up fits = tt
message-later joined after site found (Replies (reply.Ranged m)) up fits = tt
message-later joined after site found (Replies (reply.Downloaded m)) up fits = tt
message-later joined after site found (Replies (reply.Refused number values)) up fits = tt

-- A join acts: of its site the generations that it tells have acted, and all that it closed.

join-number : (m : Join) (p : PublisherTables) (n : ℕ) (s : SubscriberTables) (b : Bool) → same_number n m.site.0 b → (b ≡ true → m.generation ≡ subscriber_last_closed s) → SubscriberFits (received_by_number p n) n s
    → SubscriberFits (received_by_number (join_taken m p) n) n s
join-number m p n s true same tells f =
    let is : received_by_number (join_taken m p) n ≡ m.generation = joined-received m p n true same in
    record { keyed = f.keyed; idle = f.idle; own = f.own; last = f.last; taken = omega (arith, is, tells refl) }
join-number m p n s false differs tells f =
    subst (λ (k : ℕ). SubscriberFits k n s) (sym (joined-received m p n false differs)) f

join-done : (m : Join) (p : PublisherTables) (h : History) (n generation : ℕ) (b : Bool) → same_number n m.site.0 b → 1 ≤ generation → received_by_number p m.site.0 ≤ m.generation → DoneIsReceived h p
    → is_done (Noting.with_done m.site.0 0 m.generation h) n generation ≡ nat_le generation (received_by_number (join_taken m p) n)
join-done m p h n generation true same from below done =
    let is : received_by_number (join_taken m p) n ≡ m.generation = joined-received m p n true same in
    let was : received_by_number p n ≤ m.generation = subst (λ (k : ℕ). received_by_number p k ≤ m.generation) (sym same) below in
    grind (arith, nat_tests, done-joins h m.site.0 0 m.generation n generation, done n generation from, is, was, same, from)
join-done m p h n generation false differs from below done =
    let is : received_by_number (join_taken m p) n ≡ received_by_number p n = joined-received m p n false differs in
    grind (arith, nat_tests, done-joins h m.site.0 0 m.generation n generation, done n generation from, is, differs, from)

abbrev pub tells_all : Join → Option SubscriberTables → Type 0
tells_all m None = ⊥
tells_all m (Some s) = m.generation ≡ subscriber_last_closed s

found-tells : (m : Join) (found : Option SubscriberTables) (s : SubscriberTables) → found ≡ Some s → tells_all m found → m.generation ≡ subscriber_last_closed s
found-tells m None s e tells = absurd tells
found-tells m (Some t) s e tells = let same : t ≡ s = cc in tells ∙ ap subscriber_last_closed same

closed-above : (m : Join) (p : PublisherTables) (found : Option SubscriberTables) → ((s : SubscriberTables) → found ≡ Some s → SubscriberFits (received_by_number p m.site.0) m.site.0 s) → tells_all m found → received_by_number p m.site.0 ≤ m.generation
closed-above m p None all tells = absurd tells
closed-above m p (Some s) all tells = let f = all s refl in omega (arith, f.taken, tells)

pub joined-rises : (m : Join) (p : PublisherTables) (site : SiteId) (b : Bool) → same_number site.0 m.site.0 b → joined_at p m.site < m.seq → joined_at p site ≤ joined_at (join_taken m p) site
joined-rises m p site true same later =
    let is : joined_at (join_taken m p) site ≡ m.seq = joined-joined m p site true same in
    let was : joined_at p site ≡ joined_at p m.site = ap (λ (k : ℕ). (unwrap_or (at_number p.sites k) no_state).joined_at) same in
    omega (arith, is, was, later)
joined-rises m p site false differs later = omega (arith, joined-joined m p site false differs)

pub join-fits : (m : Join) (w : World) (h : History) → join_acts m w.publisher ≡ true → tells_all m (at_number w.subscribers m.site.0) → Received w h
    → Received (with_publisher (join_taken m w.publisher) w) (Noting.with_done m.site.0 0 m.generation h)
join-fits m w h acts tells r =
    let below : received_by_number w.publisher m.site.0 ≤ m.generation = closed-above m w.publisher (at_number w.subscribers m.site.0) (λ s at. r.subscribers m.site.0 s at) tells in
    record {
      subscribers = λ n s at. join-number m w.publisher n s (n == m.site.0) (number-decided n m.site.0)
          (λ e. found-tells m (at_number w.subscribers m.site.0) s (ap (λ (k : ℕ). at_number w.subscribers k) (sym (numbers-same n m.site.0 e)) ∙ at) tells) (r.subscribers n s at);
      letters = all-weaker (LetterFits w.subscribers w.publisher) (LetterFits w.subscribers (join_taken m w.publisher))
          (λ letter fits. message-later (joined_at w.publisher letter.site) (joined_at (join_taken m w.publisher) letter.site) letter.site (at_number w.subscribers letter.site.0) letter.message
          (joined-rises m w.publisher letter.site (letter.site.0 == m.site.0) (number-decided letter.site.0 m.site.0) (acts-later m w.publisher acts)) fits) w.pool r.letters;
      done = λ n generation from. join-done m w.publisher h n generation (n == m.site.0) (number-decided n m.site.0) from below r.done;
    }

-- An upload acts: it begins where the site was taken, and goes on.

abbrev pub upload_sites : Upload → List Act → PublisherTables → PublisherTables → Type 0
upload_sites m acts p q = q.sites ≡ sites_taken m acts p.sites

upload-if : (m : Upload) (p : PublisherTables) (n : ℕ) (b : Bool) → same_number n m.site.0 b → is_some (at_number p.sites m.site.0) ≡ true
    → (if b && is_some (at_number p.sites n) then m.to else received_by_number p n) ≡ (if b then m.to else received_by_number p n)
upload-if m p n true same known = let here : is_some (at_number p.sites n) ≡ true = ap (λ (k : ℕ). is_some (at_number p.sites k)) same ∙ known in grind (arith, here)
upload-if m p n false differs known = refl

upload-number : (m : Upload) (acts : List Act) (p q : PublisherTables) (n : ℕ) → upload_sites m acts p q → is_some (at_number p.sites m.site.0) ≡ true
    → received_by_number q n ≡ (if n == m.site.0 then m.to else received_by_number p n)
upload-number m acts p q n e known =
    ap (λ (sites : List (ℕ × SiteState)). number_in (λ (x : SiteState). x.received) (at_number sites n)) e ∙ upload-received m acts p.sites n ∙ upload-if m p n (n == m.site.0) (number-decided n m.site.0) known

upload-truth : (after before b c : Bool) (n site generation from to r q : ℕ) → after ≡ (before || (c && (nat_lt from generation && nat_le generation to))) → before ≡ nat_le generation r → q ≡ (if b then to else r)
    → same_number n site b → c ≡ b → (b ≡ true → from ≤ r) → (b ≡ true → r < to) → after ≡ nat_le generation q
upload-truth after before true c n site generation from to r q a d e same i begins goes_on = grind (arith, nat_tests, a, d, e, i, begins, goes_on)
upload-truth after before false c n site generation from to r q a d e same i begins goes_on = grind (arith, nat_tests, a, d, e, i)

upload-done : (m : Upload) (acts : List Act) (p q : PublisherTables) (h : History) (n generation : ℕ) → upload_sites m acts p q → is_some (at_number p.sites m.site.0) ≡ true → m.from ≤ received_by_number p m.site.0 → received_by_number p m.site.0 < m.to
    → 1 ≤ generation → DoneIsReceived h p → is_done (Noting.with_done m.site.0 m.from m.to h) n generation ≡ nat_le generation (received_by_number q n)
upload-done m acts p q h n generation e known begins goes_on from done =
    let is = upload-number m acts p q n e known in
    upload-truth (is_done (Noting.with_done m.site.0 m.from m.to h) n generation) (is_done h n generation) (n == m.site.0) (m.site.0 == n) n m.site.0 generation m.from m.to (received_by_number p n) (received_by_number q n)
    (done-joins h m.site.0 m.from m.to n generation (omega (arith, begins, goes_on))) (done n generation from) is (number-decided n m.site.0) (numbers-turned m.site.0 n)
    (λ e. subst (λ (k : ℕ). m.from ≤ received_by_number p k) (sym (numbers-same n m.site.0 e)) begins) (λ e. subst (λ (k : ℕ). received_by_number p k < m.to) (sym (numbers-same n m.site.0 e)) goes_on)

upload-subscriber : (m : Upload) (n r q : ℕ) (s : SubscriberTables) (b : Bool) → q ≡ (if b then m.to else r) → (b ≡ true → m.to ≤ subscriber_last_closed s) → SubscriberFits r n s → SubscriberFits q n s
upload-subscriber m n r q s true is closed f = record { keyed = f.keyed; idle = f.idle; own = f.own; last = f.last; taken = omega (arith, is, closed refl) }
upload-subscriber m n r q s false is closed f = subst (λ (k : ℕ). SubscriberFits k n s) (sym is) f

abbrev pub has_closed : Upload → Option SubscriberTables → Type 0
has_closed m None = ⊥
has_closed m (Some s) = m.to ≤ subscriber_last_closed s

found-closed : (m : Upload) (found : Option SubscriberTables) (s : SubscriberTables) → found ≡ Some s → has_closed m found → m.to ≤ subscriber_last_closed s
found-closed m None s e closed = absurd closed
found-closed m (Some t) s e closed = let same : t ≡ s = cc in subst (λ (x : SubscriberTables). m.to ≤ subscriber_last_closed x) same closed

pub upload-fits : (m : Upload) (acts : List Act) (w : World) (q : PublisherTables) (h : History) → upload_sites m acts w.publisher q → is_some (at_number w.publisher.sites m.site.0) ≡ true → m.from ≤ received_by_number w.publisher m.site.0
    → received_by_number w.publisher m.site.0 < m.to → has_closed m (at_number w.subscribers m.site.0) → Received w h → Received (with_publisher q w) (Noting.with_done m.site.0 m.from m.to h)
upload-fits m acts w q h e known begins goes_on closed r = record {
  subscribers = λ n s at. upload-subscriber m n (received_by_number w.publisher n) (received_by_number q n) s (n == m.site.0) (upload-number m acts w.publisher q n e known)
      (λ same. found-closed m (at_number w.subscribers m.site.0) s (ap (λ (k : ℕ). at_number w.subscribers k) (sym (numbers-same n m.site.0 same)) ∙ at) closed) (r.subscribers n s at);
  letters = all-weaker (LetterFits w.subscribers w.publisher) (LetterFits w.subscribers q)
      (λ letter fits. subst (λ (k : ℕ). MessageFits k letter.site (at_number w.subscribers letter.site.0) letter.message)
      (sym (ap (λ (sites : List (ℕ × SiteState)). (unwrap_or (at_number sites letter.site.0) no_state).joined_at) e ∙ upload-joined m acts w.publisher.sites letter.site.0)) fits) w.pool r.letters;
  done = λ n generation from. upload-done m acts w.publisher q h n generation e known begins goes_on from r.done;
}

-- what is known of an upload that is not refused
pub not-refused : (b : Bool) (refusal : Refusal) → refused_if b refusal ≡ None → b ≡ false
not-refused true refusal e = absurd (grind (arith, e))
not-refused false refusal e = refl

pub upload-known : (publication : Publication) (judge : PublisherJudge) (now : Moment) (m : Upload) (p : PublisherTables) → upload_refusal publication judge now m p ≡ None
    → (is_some (at_number p.sites m.site.0) ≡ true) × (judge.is_gap m.site.0 m.from ≡ false)
upload-known publication judge now m p e =
    let all = first-none (site_refusal publication m.site m.seq now p) _ e in
    let site = first-none (unknown_site publication m.site) _ all.0 in
    let state = first-none (state_refusal publication m.seq (later now p.latest) (at_number p.sites m.site.0)) [] site.1 in
    let gap = first-none (refused_if (judge.is_gap m.site.0 m.from) (Gap m.from (judge.received m.site.0))) _ all.1 in
    (state-known publication m.seq (later now p.latest) (at_number p.sites m.site.0) state.0, not-refused (judge.is_gap m.site.0 m.from) (Gap m.from (judge.received m.site.0)) gap.0)
