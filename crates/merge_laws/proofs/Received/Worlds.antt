-- What the numbers say of a world is kept by each kind of step.
use Rattle.std.specs.Prelude.{◌≡◌, ◌≤◌, ◌<◌, ◌==◌, ◌+◌, ◌++◌, ◌&&◌, ℕ, zero, suc, List, [], ◌∷◌, Bool, true, false, not, Option, Some, refl, nat_le, unwrap_or}
use Rattle.std.specs.List.{AllByRecursion, list_any, range_with_len}
use Rattle.std.proofs.Common.{arith, subst, sym, ap, ◌∙◌}
use Rattle.std.proofs.lemmas.Bool.Decides.{nat_tests}
use Rattle.merge_types.specs.declared.identifiers.SiteId.{SiteId}
use Rattle.merge_batch.specs.declared.request.Join.{Join}
use Rattle.merge_model.specs.Tables.{PublisherTables, SubscriberTables}
use Rattle.merge_model.specs.Tables.Keys.{at_number, put_number}
use Rattle.merge_model.specs.Judge.ByNumbers.{received_by_number}
use Rattle.merge_model.specs.Judge.ByHistory.{received_by_done, is_gap_by_done}
use Rattle.merge_model.specs.Publisher.{no_state}
use Rattle.merge_model.specs.Subscriber.{subscriber_last_closed}
use Rattle.merge_model.specs.World.{World, with_publisher, with_subscriber}
use Rattle.merge_model.specs.declared.letter.Letter.{Letter}
use Rattle.merge_model.specs.declared.letter.Message.{Message}
use Rattle.merge_model.specs.History.{History, is_done}
use Rattle.merge_laws.specs.Facts.Received.{joined_at, JoinFits, MessageFits, LetterFits, SubscriberFits, AllFit, DoneIsReceived, Received}
use Rattle.merge_model.proofs.Lists.Finding.{all-more, all-weaker}
use Rattle.merge_laws.proofs.Received.Publishing.{SameNumbers, greatest-step, member-step}
use Rattle.merge_laws.proofs.Received.Subscribing.{Goes, all-fit, letters-go}
use Rattle.merge_model.proofs.Lists.Tests.{numbers-same}

-- only what has acted counts of a history
pub history-same : (w : World) (h k : History) → k.done ≡ h.done → Received w h → Received w k
history-same w h k e r = record {
  subscribers = r.subscribers;
  letters = r.letters;
  done = λ n generation from. ap (λ (done : List (ℕ × ℕ)). list_any (λ (entry : ℕ × ℕ). (entry.0 == n) && (entry.1 == generation)) done) e ∙ r.done n generation from;
}

-- a letter more
pub posted-fits : (w : World) (h : History) (letter : Letter) → LetterFits w.subscribers w.publisher letter → Received w h → Received (record w { pool = w.pool ++ letter ∷ [] }) h
posted-fits w h letter fits r = record {
  subscribers = r.subscribers;
  letters = all-more (LetterFits w.subscribers w.publisher) w.pool letter r.letters fits;
  done = r.done;
}

-- a subscriber goes on
pub subscriber-goes : (w : World) (h : History) (s t : SubscriberTables) → at_number w.subscribers s.site.0 ≡ Some s → Goes (received_by_number w.publisher s.site.0) (joined_at w.publisher s.site) s t → Received w h → Received (with_subscriber t w) h
subscriber-goes w h s t at g r =
    let put : List (ℕ × SubscriberTables) = put_number w.subscribers s.site.0 t in
    let same : put_number w.subscribers t.site.0 t ≡ put = ap (λ (site : SiteId). put_number w.subscribers site.0 t) g.same_site in
    record {
      subscribers = subst (λ (subs : List (ℕ × SubscriberTables)). AllFit subs w.publisher) (sym same) (all-fit w.subscribers w.publisher s t g.fits r.subscribers);
      letters = subst (λ (subs : List (ℕ × SubscriberTables)). AllByRecursion (LetterFits subs w.publisher) w.pool) (sym same)
          (letters-go w.subscribers w.publisher s t at g.seq g.closed
          (λ site same_site. subst (λ (n : ℕ). (m : Join) → JoinFits n site m (Some s) → n < m.seq → (t.is_joined ≡ false) × (m.generation ≡ subscriber_last_closed t))
          (sym (ap (λ (k : ℕ). (unwrap_or (at_number w.publisher.sites k) no_state).joined_at) same_site)) (g.waits site)) w.pool r.letters);
      done = r.done;
    }

-- the publisher goes on without a change of these numbers
message-same : (joined other : ℕ) (site : SiteId) (found : Option SubscriberTables) (message : Message) → joined ≡ other → MessageFits joined site found message → MessageFits other site found message
message-same joined other site found message e fits = subst (λ (n : ℕ). MessageFits n site found message) e fits

pub publisher-same : (w : World) (h : History) (q : PublisherTables) → SameNumbers w.publisher q → Received w h → Received (with_publisher q w) h
publisher-same w h q same r = record {
  subscribers = λ n s at. subst (λ (k : ℕ). SubscriberFits k n s) (sym (same.received n)) (r.subscribers n s at);
  letters = all-weaker (LetterFits w.subscribers w.publisher) (LetterFits w.subscribers q)
      (λ letter fits. message-same (joined_at w.publisher letter.site) (joined_at q letter.site) letter.site (at_number w.subscribers letter.site.0) letter.message (sym (same.joined letter.site)) fits) w.pool r.letters;
  done = λ n generation from. r.done n generation from ∙ ap (λ (k : ℕ). nat_le generation k) (sym (same.received n));
}

-- what Done says of the received generation
below-each : (h : History) (p : PublisherTables) (n : ℕ) → DoneIsReceived h p → (generation : ℕ) → list_any (λ (entry : ℕ × ℕ). (entry.0 == n) && (entry.1 == generation)) h.done ≡ true → generation ≤ received_by_number p n
below-each h p n done zero is = omega arith
below-each h p n done (suc k) is = grind (arith, nat_tests, done n (suc k), is)

at-least : (h : History) (p : PublisherTables) (n : ℕ) → DoneIsReceived h p → (r : ℕ) → received_by_number p n ≡ r → received_by_number p n ≤ received_by_done h n
at-least h p n done zero e = omega (arith, e)
at-least h p n done (suc k) e =
    let is : is_done h n (received_by_number p n) ≡ true = grind (arith, nat_tests, done n (received_by_number p n), e) in
    member-step n 0 (received_by_number p n) h.done is

pub received-is : (h : History) (p : PublisherTables) (n : ℕ) → DoneIsReceived h p → received_by_done h n ≡ received_by_number p n
received-is h p n done =
    let up : received_by_done h n ≤ received_by_number p n = greatest-step n 0 (received_by_number p n) h.done (omega arith) (below-each h p n done) in
    let down : received_by_number p n ≤ received_by_done h n = at-least h p n done (received_by_number p n) refl in
    omega (arith, up, down)

-- a batch that leaves no gap begins at a generation that has acted
in-range : (test : ℕ → Bool) (n from generation : ℕ) → list_any test (range_with_len from n) ≡ false → from ≤ generation → generation < from + n → test generation ≡ false
in-range test zero from generation none low high = absurd (omega arith)
in-range test (suc n) from generation none low high = elim (from == generation) as (λ (b : Bool). (from == generation) ≡ b → test generation ≡ false) [
  | true ↦ (λ e. ap test (sym (numbers-same from generation e)) ∙ grind (arith, none))
  | false ↦ (λ e. in-range test n (from + 1) generation (grind (arith, none)) (grind (arith, nat_tests, e, low)) (omega (arith, high)))
] refl

pub no-gap : (h : History) (p : PublisherTables) (n from : ℕ) → DoneIsReceived h p → is_gap_by_done h n from ≡ false → from ≤ received_by_number p n
no-gap h p n zero done e = omega arith
no-gap h p n (suc k) done e =
    let last : not (is_done h n (suc k)) ≡ false = in-range (λ (g : ℕ). not (is_done h n g)) (suc k) 1 (suc k) e (omega arith) (omega arith) in
    grind (arith, nat_tests, done n (suc k), last)
