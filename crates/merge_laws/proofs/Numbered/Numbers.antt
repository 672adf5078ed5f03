-- What a world says of last changes is kept by each way that a step can go.
use Rattle.std.specs.Prelude.{◌≡◌, ◌≤◌, ◌<◌, ◌==◌, ◌+◌, ◌++◌, ◌&&◌, ℕ, zero, suc, List, [], ◌∷◌, Bool, true, false, Option, Some, None, refl, if◌then◌else◌, cond, is_some, nat_le}
use Rattle.std.specs.List.{list_any}
use Rattle.std.proofs.Common.{arith, subst, sym, ap, ◌∙◌}
use Rattle.std.proofs.lemmas.Bool.Decides.{nat_tests}
use Rattle.merge_types.specs.declared.identifiers.SiteId.{SiteId}
use Rattle.merge_gens.specs.declared.sites.SiteState.{SiteState}
use Rattle.merge_batch.specs.declared.request.Join.{Join}
use Rattle.merge_batch.specs.declared.request.Request.TheVariants as request
use Rattle.merge_batch.specs.declared.request.Upload.{Upload}
use Rattle.merge_model.specs.Publisher.Acts.{Act}
use Rattle.merge_model.specs.Judge.ByHistory.{is_unmet_by_done}
use Rattle.merge_model.specs.Judge.ByNumbers.{is_unmet_by_number, received_by_number, received_number_by_number}
use Rattle.merge_model.specs.History.{History, MadeChange, is_done, made_at}
use Rattle.merge_model.specs.Tables.Keys.{at_number, put_number}
use Rattle.merge_model.specs.History.Model.{with_letter}
use Rattle.merge_model.specs.History.Noting
use Rattle.merge_model.specs.Publisher.{at_moment}
use Rattle.merge_model.specs.Publisher.PublisherJoin.{join_taken}
use Rattle.merge_model.specs.Subscriber.{subscriber_last_closed}
use Rattle.merge_model.specs.Tables.{PublisherTables, SubscriberTables}
use Rattle.merge_model.specs.World.{World, letter_at, with_publisher, with_subscriber}
use Rattle.merge_model.specs.declared.letter.Message.TheVariants.{Asks, Replies}
use Rattle.merge_model.specs.declared.letter.Letter.{Letter}
use Rattle.merge_model.specs.declared.letter.Message.{Message}
use Rattle.merge_laws.specs.Facts.Received.{Received}
use Rattle.merge_laws.specs.Facts.Numbered.{InOrder, JoinTells, LetterTells, MessageTells, Numbered, Tells, UploadTells, last_of}
use Rattle.merge_model.proofs.Lists.Finding.{all-at, all-more, all-weaker, at_put_other, at_put_same}
use Rattle.merge_laws.proofs.Walking.Noted.{NotesKeep}
use Rattle.merge_laws.proofs.Received.Publishing.{SameNumbers, done-joins, joined-change, joined-received, number_in, sites_taken, upload-change, upload-received}
use Rattle.merge_laws.proofs.Received.Subscribing.{number-decided, same_number}
use Rattle.merge_laws.proofs.Numbered.Telling.{some-same}
use Rattle.merge_model.proofs.Lists.Tests.{number-itself}
use Rattle.merge_laws.proofs.Numbered.Through.{is_there, last-none, none-there, order-there, unmet-is}

-- Histories.

-- the same generations have acted, and no change but the publisher's is new
pub record Alike (h k : History) : Type 0 where
  pub done : k.done ≡ h.done
  pub made : (n : ℕ) → (n ≡ 0 → ⊥) → made_at k n ≡ made_at h n

pub alike-itself : (h : History) → Alike h h
alike-itself h = record { done = refl; made = λ n named. refl }

other-test : (a b : ℕ) → (b ≡ a → ⊥) → (a == b) ≡ false
other-test a b differs = grind (arith, nat_tests, differs)

abbrev if_made : Bool → MadeChange → List MadeChange → List MadeChange
if_made b c changes = cond b (c ∷ changes) changes

-- a change more
pub made-same : (h : History) (c : MadeChange) → made_at (record h { made = c ∷ h.made }) c.dot.site.0 ≡ c ∷ made_at h c.dot.site.0
made-same h c = ap (λ (b : Bool). if_made b c (made_at h c.dot.site.0)) (number-itself c.dot.site.0)

pub made-other : (h : History) (c : MadeChange) (n : ℕ) → (n ≡ c.dot.site.0 → ⊥) → made_at (record h { made = c ∷ h.made }) n ≡ made_at h n
made-other h c n differs = ap (λ (b : Bool). if_made b c (made_at h n)) (other-test c.dot.site.0 n differs)

pub alike-notes : (h : History) → NotesKeep (λ (k : History). Alike h k)
alike-notes h = record {
  of_lines = λ k lines a. record { done = a.done; made = a.made };
  of_pasts = λ k pasts a. record { done = a.done; made = a.made };
  of_lost = λ k lost a. record { done = a.done; made = a.made };
  of_accepted = λ k accepted a. record { done = a.done; made = a.made };
  of_purged = λ k purged a. record { done = a.done; made = a.made };
  of_made = λ k change own a. record { done = a.done; made = λ n named. made-other k change n (λ e. named (e ∙ own)) ∙ a.made n named };
}

-- up to a generation that the site has closed, the last change is the same
last-alike : (h k : History) (n to : ℕ) → ((m : ℕ) → (m ≡ 0 → ⊥) → made_at k m ≡ made_at h m) → (n ≡ 0 → to ≡ 0) → last_of to (made_at k n) ≡ last_of to (made_at h n)
last-alike h k zero to same none =
    ap (λ (g : ℕ). last_of g (made_at k 0)) (none refl) ∙ last-none (made_at k 0) ∙ sym (last-none (made_at h 0)) ∙ ap (λ (g : ℕ). last_of g (made_at h 0)) (sym (none refl))
last-alike h k (suc n) to same none = ap (λ (made : List MadeChange). last_of to made) (same (suc n) (λ e. grind (arith, e)))

pub done-same : (h k : History) → k.done ≡ h.done → ((n : ℕ) → is_done h n 0 ≡ false) → (n : ℕ) → is_done k n 0 ≡ false
done-same h k e first n = ap (λ (done : List (ℕ × ℕ)). list_any (λ (entry : ℕ × ℕ). (entry.0 == n) && (entry.1 == 0)) done) e ∙ first n

-- generations that join those that have acted begin with 1
pub done-more : (h : History) (site from to : ℕ) → from ≤ to → ((n : ℕ) → is_done h n 0 ≡ false) → (n : ℕ) → is_done (Noting.with_done site from to h) n 0 ≡ false
done-more h site from to up first n = grind (arith, nat_tests, done-joins h site from to n 0 up, first n)

-- Parts of a world.

tells-alike : (before after : List MadeChange) (n : ℕ) (s : SubscriberTables) → ((n ≡ 0 → ⊥) → after ≡ before) → ((to : ℕ) → (n ≡ 0 → to ≡ 0) → last_of to after ≡ last_of to before) → Tells before n s → Tells after n s
tells-alike before after n s all same t = record {
  named = t.named;
  order = λ differs. subst (λ (made : List MadeChange). InOrder s.changes (subscriber_last_closed s + 1) made) (sym (all differs)) (t.order differs);
  entered = λ filled. t.entered filled ∙ sym (same (subscriber_last_closed s + 1) (λ own. absurd (filled (t.named own).1)));
  idle = λ empty. t.idle empty ∙ sym (same (subscriber_last_closed s) (λ own. (t.named own).0));
  keeps = λ generation low up. t.keeps generation low up ∙ some-same (last_of generation before) (last_of generation after) (sym (same generation (λ own. (let none = (t.named own).0 in omega (arith, up, none)))));
  above = t.above;
  sent = t.sent;
}

message-on : (before after : List MadeChange) (s t : SubscriberTables) → subscriber_last_closed s ≤ subscriber_last_closed t → ((to : ℕ) → to ≤ subscriber_last_closed s → last_of to after ≡ last_of to before)
    → (message : Message) → MessageTells before (Some s) message → MessageTells after (Some t) message
message-on before after s t rises same (Asks (request.Join m)) tells = (omega (arith, tells.0, rises), tells.1 ∙ sym (same m.generation tells.0))
message-on before after s t rises same (Asks (request.Upload m)) tells = (omega (arith, tells.0, rises), λ goes. tells.1 goes ∙ sym (same m.to tells.0))
message-on before after s t rises same (Asks (request.Ranges m)) tells = tt
message-on before after s t rises same (Asks (request.Download m)) tells = tt
message-on before after s t rises same (Replies m) tells = tt

message-none : (before after : List MadeChange) (message : Message) → MessageTells before None message → MessageTells after None message
message-none before after (Asks (request.Join m)) tells = tells
message-none before after (Asks (request.Upload m)) tells = tells
message-none before after (Asks (request.Ranges m)) tells = tt
message-none before after (Asks (request.Download m)) tells = tt
message-none before after (Replies m) tells = tt

module _ (w : World) (h : History) (r : Received w h) (i : Numbered w h) where
  none-received : (n : ℕ) (found : Option SubscriberTables) → at_number w.subscribers n ≡ found → n ≡ 0 → received_by_number w.publisher n ≡ 0
  none-received n None is own = i.unknown n is
  none-received n (Some s) is own = let taken = (r.subscribers n s is).taken in let none = ((i.subscribers n s is).named own).0 in omega (arith, taken, none)

  pub letter-tells : (number : ℕ) (letter : Letter) → letter_at w number ≡ Some letter → LetterTells h w.subscribers letter
  letter-tells zero letter at = absurd (grind (arith, at))
  letter-tells (suc k) letter at = all-at (LetterTells h w.subscribers) w.pool k letter at i.letters

  -- a change of a site has acted just where its number is no greater than the publisher's of the site
  there-by-number : (n asked : ℕ) (found : Option SubscriberTables) → at_number w.subscribers n ≡ found → (n ≡ 0 → ⊥) → 1 ≤ asked → list_any (is_there (received_by_number w.publisher n) asked) (made_at h n) ≡ nat_le asked (last_of (received_by_number w.publisher n) (made_at h n))
  there-by-number n asked (Some s) is named from = order-there (received_by_number w.publisher n) asked s.changes (subscriber_last_closed s + 1) (made_at h n) from ((i.subscribers n s is).order named)
  there-by-number n asked None is named from = subst (λ (made : List MadeChange). list_any (is_there (received_by_number w.publisher n) asked) made ≡ nat_le asked (last_of (received_by_number w.publisher n) made)) (sym (i.strangers n named is)) (grind (arith, nat_tests, from))

  there-of : (n asked : ℕ) → 1 ≤ asked → list_any (is_there (received_by_number w.publisher n) asked) (made_at h n) ≡ nat_le asked (last_of (received_by_number w.publisher n) (made_at h n))
  there-of zero asked from = subst (λ (to : ℕ). list_any (is_there to asked) (made_at h 0) ≡ nat_le asked (last_of to (made_at h 0))) (sym (none-received 0 (at_number w.subscribers 0) refl refl)) (grind (arith, nat_tests, none-there asked (made_at h 0), last-none (made_at h 0), from))
  there-of (suc n) asked from = there-by-number (suc n) asked (at_number w.subscribers (suc n)) refl (λ e. grind (arith, e)) from

  pub unmet-by-number : (n asked : ℕ) → 1 ≤ asked → is_unmet_by_number w.publisher n asked ≡ is_unmet_by_done h n asked
  unmet-by-number n asked from = grind (arith, nat_tests, unmet-is h w.publisher n asked r.done (i.first n), there-of n asked from, i.taken n)

  upload-of : (made : List MadeChange) (found : Option SubscriberTables) (m : Upload) → UploadTells made m found → m.from < m.to → m.through ≡ last_of m.to made
  upload-of made None m tells goes = absurd tells
  upload-of made (Some s) m tells goes = tells.1 goes

  pub upload-says : (number : ℕ) (site : SiteId) (m : Upload) → letter_at w number ≡ Some (record { site = site; message = Asks (request.Upload m) }) → m.from < m.to → m.through ≡ last_of m.to (made_at h site.0)
  upload-says number site m at goes = upload-of (made_at h site.0) (at_number w.subscribers site.0) m (letter-tells number (record { site = site; message = Asks (request.Upload m) }) at) goes

  -- The history goes on.

  module _ (k : History) (same : (n : ℕ) → (n ≡ 0 → ⊥) → made_at k n ≡ made_at h n) where
    letter-alike : (n : ℕ) (found : Option SubscriberTables) → at_number w.subscribers n ≡ found → (message : Message) → MessageTells (made_at h n) found message → MessageTells (made_at k n) found message
    letter-alike n None is message tells = message-none (made_at h n) (made_at k n) message tells
    letter-alike n (Some s) is message tells = message-on (made_at h n) (made_at k n) s s (omega arith)
        (λ to up. last-alike h k n to same (λ own. (let none = ((i.subscribers n s is).named own).0 in omega (arith, up, none)))) message tells

    pub history-on : ((n : ℕ) → is_done k n 0 ≡ false) → Numbered w k
    history-on first = record {
      subscribers = λ n s at. tells-alike (made_at h n) (made_at k n) n s (same n) (λ to none. last-alike h k n to same none) (i.subscribers n s at);
      letters = all-weaker (LetterTells h w.subscribers) (LetterTells k w.subscribers)
          (λ letter tells. letter-alike letter.site.0 (at_number w.subscribers letter.site.0) refl letter.message tells) w.pool i.letters;
      taken = λ n. i.taken n ∙ sym (last-alike h k n (received_by_number w.publisher n) same (none-received n (at_number w.subscribers n) refl));
      unknown = i.unknown;
      strangers = λ n named none. same n named ∙ i.strangers n named none;
      first = first;
    }

  pub alike-on : (k : History) → Alike h k → Numbered w k
  alike-on k a = history-on k a.made (done-same h k a.done i.first)

-- The publisher goes on.
pub publisher-on : (w : World) (h : History) (q : PublisherTables) → ((n : ℕ) → received_number_by_number q n ≡ last_of (received_by_number q n) (made_at h n)) → ((n : ℕ) → at_number w.subscribers n ≡ None → received_by_number q n ≡ 0)
    → Numbered w h → Numbered (with_publisher q w) h
publisher-on w h q taken unknown i = record { subscribers = i.subscribers; letters = i.letters; taken = taken; unknown = unknown; strangers = i.strangers; first = i.first }

pub publisher-same : (w : World) (h : History) (q : PublisherTables) → SameNumbers w.publisher q → Numbered w h → Numbered (with_publisher q w) h
publisher-same w h q same i = publisher-on w h q
    (λ n. same.number n ∙ i.taken n ∙ ap (λ (to : ℕ). last_of to (made_at h n)) (sym (same.received n)))
    (λ n none. same.received n ∙ i.unknown n none) i

-- A letter more.
pub posted-on : (w : World) (h : History) (letter : Letter) → LetterTells h w.subscribers letter → Numbered w h → Numbered (record w { pool = w.pool ++ letter ∷ [] }) (with_letter letter h)
posted-on w h letter tells i = record {
  subscribers = i.subscribers;
  letters = all-more (LetterTells h w.subscribers) w.pool letter i.letters tells;
  taken = i.taken;
  unknown = i.unknown;
  strangers = i.strangers;
  first = i.first;
}

-- A subscriber goes on, and the history with a change of it.
module _ (w : World) (h k : History) (s t : SubscriberTables) (r : Received w h) (i : Numbered w h) (at : at_number w.subscribers s.site.0 ≡ Some s) (rises : subscriber_last_closed s ≤ subscriber_last_closed t)
    (others : (n : ℕ) → (n ≡ s.site.0 → ⊥) → made_at k n ≡ made_at h n) (older : (to : ℕ) → to ≤ subscriber_last_closed s → last_of to (made_at k s.site.0) ≡ last_of to (made_at h s.site.0)) (tells : Tells (made_at k s.site.0) s.site.0 t) where
  abbrev put : List (ℕ × SubscriberTables)
  put = put_number w.subscribers s.site.0 t

  put-here : (n : ℕ) → n ≡ s.site.0 → at_number put n ≡ Some t
  put-here n same = ap (λ (m : ℕ). at_number put m) same ∙ at_put_same s.site.0 t w.subscribers

  older-here : (n : ℕ) → n ≡ s.site.0 → (to : ℕ) → to ≤ subscriber_last_closed s → last_of to (made_at k n) ≡ last_of to (made_at h n)
  older-here n same = subst (λ (m : ℕ). (to : ℕ) → to ≤ subscriber_last_closed s → last_of to (made_at k m) ≡ last_of to (made_at h m)) (sym same) older

  tells-put : (n : ℕ) (u : SubscriberTables) (b : Bool) → same_number n s.site.0 b → at_number put n ≡ Some u → Tells (made_at k n) n u
  tells-put n u true same found =
      let is_t : Some t ≡ Some u = sym (put-here n same) ∙ found in
      let both : t ≡ u = cc in
      subst (λ (v : SubscriberTables). Tells (made_at k n) n v) both (subst (λ (m : ℕ). Tells (made_at k m) m t) (sym same) tells)
  tells-put n u false differs found = subst (λ (made : List MadeChange). Tells made n u) (sym (others n differs)) (i.subscribers n u (sym (at_put_other s.site.0 n t w.subscribers differs) ∙ found))

  letter-put : (n : ℕ) (b : Bool) → same_number n s.site.0 b → (message : Message) → MessageTells (made_at h n) (at_number w.subscribers n) message → MessageTells (made_at k n) (at_number put n) message
  letter-put n true same message said =
      let found : at_number w.subscribers n ≡ Some s = ap (λ (m : ℕ). at_number w.subscribers m) same ∙ at in
      subst (λ (o : Option SubscriberTables). MessageTells (made_at k n) o message) (sym (put-here n same))
      (message-on (made_at h n) (made_at k n) s t rises (older-here n same) message (subst (λ (o : Option SubscriberTables). MessageTells (made_at h n) o message) found said))
  letter-put n false differs message said =
      subst (λ (o : Option SubscriberTables). MessageTells (made_at k n) o message) (sym (at_put_other s.site.0 n t w.subscribers differs))
      (subst (λ (made : List MadeChange). MessageTells made (at_number w.subscribers n) message) (sym (others n differs)) said)

  taken-put : (n : ℕ) (b : Bool) → same_number n s.site.0 b → last_of (received_by_number w.publisher n) (made_at k n) ≡ last_of (received_by_number w.publisher n) (made_at h n)
  taken-put n true same = older-here n same (received_by_number w.publisher n) (r.subscribers n s (ap (λ (m : ℕ). at_number w.subscribers m) same ∙ at)).taken
  taken-put n false differs = ap (λ (made : List MadeChange). last_of (received_by_number w.publisher n) made) (others n differs)

  unknown-put : (n : ℕ) (b : Bool) → same_number n s.site.0 b → at_number put n ≡ None → at_number w.subscribers n ≡ None
  unknown-put n true same none = let is_t : Some t ≡ None = sym (put-here n same) ∙ none in absurd (grind (arith, is_t))
  unknown-put n false differs none = sym (at_put_other s.site.0 n t w.subscribers differs) ∙ none

  strange-put : (n : ℕ) (b : Bool) → same_number n s.site.0 b → (n ≡ 0 → ⊥) → at_number put n ≡ None → made_at k n ≡ []
  strange-put n true same named none = let is_t : Some t ≡ None = sym (put-here n same) ∙ none in absurd (grind (arith, is_t))
  strange-put n false differs named none = others n differs ∙ i.strangers n named (unknown-put n false differs none)

  put-on : k.done ≡ h.done → Numbered (record w { subscribers = put }) k
  put-on done = record {
    subscribers = λ n u found. tells-put n u (n == s.site.0) (number-decided n s.site.0) found;
    letters = all-weaker (LetterTells h w.subscribers) (LetterTells k put) (λ letter said. letter-put letter.site.0 (letter.site.0 == s.site.0) (number-decided letter.site.0 s.site.0) letter.message said) w.pool i.letters;
    taken = λ n. i.taken n ∙ sym (taken-put n (n == s.site.0) (number-decided n s.site.0));
    unknown = λ n none. i.unknown n (unknown-put n (n == s.site.0) (number-decided n s.site.0) none);
    strangers = λ n named none. strange-put n (n == s.site.0) (number-decided n s.site.0) named none;
    first = done-same h k done i.first;
  }

  pub change-on : t.site.0 ≡ s.site.0 → k.done ≡ h.done → Numbered (with_subscriber t w) k
  change-on same done = subst (λ (n : ℕ). Numbered (record w { subscribers = put_number w.subscribers n t }) k) (sym same) (put-on done)

-- what a step of a subscriber does that makes no change
pub record Onward (made : List MadeChange) (s t : SubscriberTables) : Type 0 where
  pub site : t.site.0 ≡ s.site.0
  pub rises : subscriber_last_closed s ≤ subscriber_last_closed t
  pub tells : Tells made s.site.0 t

pub subscriber-on : (w : World) (h : History) (s t : SubscriberTables) → Received w h → Numbered w h → at_number w.subscribers s.site.0 ≡ Some s → Onward (made_at h s.site.0) s t → Numbered (with_subscriber t w) h
subscriber-on w h s t r i at o = change-on w h h s t r i at o.rises (λ n differs. refl) (λ to up. refl) o.tells o.site refl

-- and makes a message
pub message-sent : (w : World) (h : History) (s t : SubscriberTables) (message : Message) → Received w h → Numbered w h → at_number w.subscribers s.site.0 ≡ Some s → Onward (made_at h s.site.0) s t → MessageTells (made_at h s.site.0) (Some t) message
    → (let letter : Letter = record { site = s.site; message = message } in Numbered (record w { subscribers = put_number w.subscribers t.site.0 t; pool = w.pool ++ letter ∷ [] }) (with_letter letter h))
message-sent w h s t message r i at o said =
    let put : at_number (put_number w.subscribers t.site.0 t) s.site.0 ≡ Some t = ap (λ (n : ℕ). at_number (put_number w.subscribers n t) s.site.0) o.site ∙ at_put_same s.site.0 t w.subscribers in
    posted-on (with_subscriber t w) h (record { site = s.site; message = message }) (subst (λ (found : Option SubscriberTables). MessageTells (made_at h s.site.0) found message) (sym put) said) (subscriber-on w h s t r i at o)

-- A join acts, and an upload does.

module _ (w : World) (h : History) (r : Received w h) (i : Numbered w h) where
  -- what the site told is so in the history as it goes on
  join-told : (m : Join) (k : History) (found : Option SubscriberTables) → at_number w.subscribers m.site.0 ≡ found → ((n : ℕ) → (n ≡ 0 → ⊥) → made_at k n ≡ made_at h n) → JoinTells (made_at h m.site.0) m found
      → m.number ≡ last_of m.generation (made_at k m.site.0)
  join-told m k None is same tells = absurd tells
  join-told m k (Some s) is same tells = tells.1 ∙ sym (last-alike h k m.site.0 m.generation same (λ own. (let below = tells.0 in let none = ((i.subscribers m.site.0 s is).named own).0 in omega (arith, below, none))))

  join-known : (m : Join) (found : Option SubscriberTables) → JoinTells (made_at h m.site.0) m found → found ≡ None → ⊥
  join-known m None tells e = tells
  join-known m (Some s) tells e = grind (arith, e)

  join-number : (m : Join) (k : History) (n : ℕ) (b : Bool) → same_number n m.site.0 b → Numbered w k → m.number ≡ last_of m.generation (made_at k m.site.0)
      → received_number_by_number (join_taken m (at_moment w.moment w.publisher)) n ≡ last_of (received_by_number (join_taken m (at_moment w.moment w.publisher)) n) (made_at k n)
  join-number m k n true same j told =
      joined-change m (at_moment w.moment w.publisher) n true same ∙ told ∙ ap (λ (site : ℕ). last_of m.generation (made_at k site)) (sym same)
      ∙ ap (λ (to : ℕ). last_of to (made_at k n)) (sym (joined-received m (at_moment w.moment w.publisher) n true same))
  join-number m k n false differs j told =
      joined-change m (at_moment w.moment w.publisher) n false differs ∙ j.taken n ∙ ap (λ (to : ℕ). last_of to (made_at k n)) (sym (joined-received m (at_moment w.moment w.publisher) n false differs))

  join-unknown : (m : Join) (n : ℕ) (b : Bool) → same_number n m.site.0 b → (at_number w.subscribers m.site.0 ≡ None → ⊥) → at_number w.subscribers n ≡ None → received_by_number (join_taken m (at_moment w.moment w.publisher)) n ≡ 0
  join-unknown m n true same known none = absurd (known (ap (λ (k : ℕ). at_number w.subscribers k) (sym same) ∙ none))
  join-unknown m n false differs known none = joined-received m (at_moment w.moment w.publisher) n false differs ∙ i.unknown n none

  pub join-on : (m : Join) (k : History) → ((n : ℕ) → (n ≡ 0 → ⊥) → made_at k n ≡ made_at h n) → ((n : ℕ) → is_done k n 0 ≡ false) → JoinTells (made_at h m.site.0) m (at_number w.subscribers m.site.0)
      → Numbered (with_publisher (join_taken m (at_moment w.moment w.publisher)) w) k
  join-on m k same first tells =
      let j : Numbered w k = history-on w h r i k same first in
      publisher-on w k (join_taken m (at_moment w.moment w.publisher))
      (λ n. join-number m k n (n == m.site.0) (number-decided n m.site.0) j (join-told m k (at_number w.subscribers m.site.0) refl same tells))
      (λ n none. join-unknown m n (n == m.site.0) (number-decided n m.site.0) (join-known m (at_number w.subscribers m.site.0) tells) none) j

  upload-told : (m : Upload) (k : History) (found : Option SubscriberTables) → at_number w.subscribers m.site.0 ≡ found → ((n : ℕ) → (n ≡ 0 → ⊥) → made_at k n ≡ made_at h n) → m.from < m.to → UploadTells (made_at h m.site.0) m found
      → m.through ≡ last_of m.to (made_at k m.site.0)
  upload-told m k None is same goes tells = absurd tells
  upload-told m k (Some s) is same goes tells = tells.1 goes ∙ sym (last-alike h k m.site.0 m.to same (λ own. (let below = tells.0 in let none = ((i.subscribers m.site.0 s is).named own).0 in omega (arith, below, none))))

  upload-known : (m : Upload) (found : Option SubscriberTables) → UploadTells (made_at h m.site.0) m found → found ≡ None → ⊥
  upload-known m None tells e = tells
  upload-known m (Some s) tells e = grind (arith, e)

  upload-if : (v : ℕ) (m : Upload) (p : PublisherTables) (field : ℕ → ℕ) (n : ℕ) (b : Bool) → (n == m.site.0) ≡ b → same_number n m.site.0 b → is_some (at_number p.sites m.site.0) ≡ true
      → (if (n == m.site.0) && is_some (at_number p.sites n) then v else field n) ≡ (if b then v else field n)
  upload-if v m p field n true e same known = let here : is_some (at_number p.sites n) ≡ true = ap (λ (k : ℕ). is_some (at_number p.sites k)) same ∙ known in grind (arith, e, here)
  upload-if v m p field n false e differs known = grind (arith, e)

  module _ (m : Upload) (acts : List Act) (q : PublisherTables) (sites : q.sites ≡ sites_taken m acts w.publisher.sites) (known : is_some (at_number w.publisher.sites m.site.0) ≡ true) where
    upload-received-at : (n : ℕ) (b : Bool) → (n == m.site.0) ≡ b → same_number n m.site.0 b → received_by_number q n ≡ (if b then m.to else received_by_number w.publisher n)
    upload-received-at n b e same = ap (λ (es : List (ℕ × SiteState)). number_in (λ (x : SiteState). x.received) (at_number es n)) sites ∙ upload-received m acts w.publisher.sites n
        ∙ upload-if m.to m w.publisher (λ (k : ℕ). received_by_number w.publisher k) n b e same known

    upload-change-at : (n : ℕ) (b : Bool) → (n == m.site.0) ≡ b → same_number n m.site.0 b → received_number_by_number q n ≡ (if b then m.through else received_number_by_number w.publisher n)
    upload-change-at n b e same = ap (λ (es : List (ℕ × SiteState)). number_in (λ (x : SiteState). x.received_number) (at_number es n)) sites ∙ upload-change m acts w.publisher.sites n
        ∙ upload-if m.through m w.publisher (λ (k : ℕ). received_number_by_number w.publisher k) n b e same known

    upload-number-at : (k : History) (n : ℕ) (b : Bool) → (n == m.site.0) ≡ b → same_number n m.site.0 b → Numbered w k → m.through ≡ last_of m.to (made_at k m.site.0)
        → received_number_by_number q n ≡ last_of (received_by_number q n) (made_at k n)
    upload-number-at k n true e same j told =
        upload-change-at n true e same ∙ told ∙ ap (λ (site : ℕ). last_of m.to (made_at k site)) (sym same) ∙ ap (λ (to : ℕ). last_of to (made_at k n)) (sym (upload-received-at n true e same))
    upload-number-at k n false e differs j told =
        upload-change-at n false e differs ∙ j.taken n ∙ ap (λ (to : ℕ). last_of to (made_at k n)) (sym (upload-received-at n false e differs))

    upload-unknown : (n : ℕ) (b : Bool) → (n == m.site.0) ≡ b → same_number n m.site.0 b → (at_number w.subscribers m.site.0 ≡ None → ⊥) → at_number w.subscribers n ≡ None → received_by_number q n ≡ 0
    upload-unknown n true e same there none = absurd (there (ap (λ (k : ℕ). at_number w.subscribers k) (sym same) ∙ none))
    upload-unknown n false e differs there none = upload-received-at n false e differs ∙ i.unknown n none

    pub upload-on : (k : History) → ((n : ℕ) → (n ≡ 0 → ⊥) → made_at k n ≡ made_at h n) → ((n : ℕ) → is_done k n 0 ≡ false) → m.from < m.to → UploadTells (made_at h m.site.0) m (at_number w.subscribers m.site.0) → Numbered (with_publisher q w) k
    upload-on k same first goes tells =
        let j : Numbered w k = history-on w h r i k same first in
        publisher-on w k q
        (λ n. upload-number-at k n (n == m.site.0) refl (number-decided n m.site.0) j (upload-told m k (at_number w.subscribers m.site.0) refl same goes tells))
        (λ n none. upload-unknown n (n == m.site.0) refl (number-decided n m.site.0) (upload-known m (at_number w.subscribers m.site.0) tells) none) j
