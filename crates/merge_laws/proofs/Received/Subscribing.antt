-- A step of a subscriber keeps what the numbers say.
use Rattle.std.specs.Prelude.{◌≡◌, ◌≤◌, ◌<◌, ◌==◌, ◌+◌, ℕ, List, Bool, true, false, Option, Some, None, refl}
use Rattle.std.specs.List.{AllByRecursion}
use Rattle.std.proofs.Common.{arith, subst, sym, ap, ◌∙◌}
use Rattle.std.proofs.lemmas.Bool.Decides.{nat_tests}
use Rattle.merge_types.specs.declared.identifiers.SiteId.{SiteId}
use Rattle.merge_types.specs.declared.identifiers.Moment.{Moment}
use Rattle.merge_types.specs.declared.values.Value.{Value}
use Rattle.merge_types.specs.declared.changes.Change.{Change}
use Rattle.merge_units.specs.declared.version.Version.{Version}
use Rattle.merge_gens.specs.declared.filling.Filling.{Filling}
use Rattle.merge_gens.specs.Filling as fill
use Rattle.merge_ident.specs.Holders.{Holder}
use Rattle.merge_batch.specs.declared.request.Join.{Join}
use Rattle.merge_batch.specs.declared.request.Outstanding.{Outstanding}
use Rattle.merge_batch.specs.declared.request.Request.TheVariants as request
use Rattle.merge_batch.specs.declared.reply.Reply.TheVariants as reply
use Rattle.merge_schema.specs.declared.publication.Publication.{Publication}
use Rattle.merge_types.specs.declared.row_key.RowKey.{RowKey as Key}
use Rattle.merge_model.specs.Tables.{PublisherTables, SubscriberTables}
use Rattle.merge_model.specs.Tables.Keys.{at_number, put_number}
use Rattle.merge_model.specs.Judge.{SubscriberJudge}
use Rattle.merge_model.specs.Tables.Changes.{key_of, version_after}
use Rattle.merge_model.specs.Judge.ByNumbers.{received_by_number}
use Rattle.merge_model.specs.Subscriber.{subscriber_last_closed, subscriber_closed, subscriber_at_moment, subscriber_made_locally, subscriber_next_dot, subscriber_version_at, with_version_if}
use Rattle.merge_model.specs.Subscriber.Sending.{with_message}
use Rattle.merge_model.specs.Subscriber.Reinit.{result_of_reinit}
use Rattle.merge_model.specs.declared.letter.Letter.{Letter}
use Rattle.merge_model.specs.declared.letter.Message.{Message}
use Rattle.merge_model.specs.declared.letter.Message.TheVariants.{Asks, Replies}
use Rattle.merge_laws.specs.Facts.Received.{joined_at, JoinFits, MessageFits, LetterFits, SubscriberFits, AllFit}
use Rattle.merge_model.proofs.Lists.Finding.{at_put_same, at_put_other, all-weaker}

-- A join that can act still waits after a step of its site.
abbrev pub StillWaits : ℕ → SiteId → SubscriberTables → SubscriberTables → Type 0
StillWaits joined site s t = (m : Join) → JoinFits joined site m (Some s) → joined < m.seq → (t.is_joined ≡ false) × (m.generation ≡ subscriber_last_closed t)

-- what a step of a subscriber keeps
pub record Goes (received joined : ℕ) (s t : SubscriberTables) : Type 0 where
  pub same_site : t.site ≡ s.site
  pub seq : s.seq ≤ t.seq
  pub closed : subscriber_last_closed s ≤ subscriber_last_closed t
  pub fits : SubscriberFits received s.site.0 t
  pub waits : (site : SiteId) → StillWaits joined site s t

message-goes : (joined : ℕ) (site : SiteId) (s t : SubscriberTables) → s.seq ≤ t.seq → subscriber_last_closed s ≤ subscriber_last_closed t → StillWaits joined site s t
    → (message : Message) → MessageFits joined site (Some s) message → MessageFits joined site (Some t) message
message-goes joined site s t seq closed waits (Asks (request.Join m)) fits = (fits.0, omega (arith, fits.1), λ later. waits m fits later)
message-goes joined site s t seq closed waits (Asks (request.Upload m)) fits = (fits.0, omega (arith, fits.1))
message-goes joined site s t seq closed waits (Asks (request.Ranges m)) fits = tt
message-goes joined site s t seq closed waits (Asks (request.Download m)) fits = tt
message-goes joined site s t seq closed waits (Replies (reply.Joined m)) fits = fits
message-goes joined site s t seq closed waits (Replies (reply.Uploaded m)) fits = tt
message-goes joined site s t seq closed waits (Replies (reply.Ranged m)) fits = tt
message-goes joined site s t seq closed waits (Replies (reply.Downloaded m)) fits = tt
message-goes joined site s t seq closed waits (Replies (reply.Refused number values)) fits = tt

-- whether a letter is of the site or of another
abbrev pub same_number : ℕ → ℕ → Bool → Type 0
same_number a b true = a ≡ b
same_number a b false = a ≡ b → ⊥

pub number-decided : (a b : ℕ) → same_number a b (a == b)
number-decided a b = elim (a == b) as (λ (c : Bool). (a == b) ≡ c → same_number a b c) [
  | true ↦ (λ e. grind (arith, nat_tests, e))
  | false ↦ (λ e same. grind (arith, nat_tests, e, same))
] refl

letter-at : (subscribers : List (ℕ × SubscriberTables)) (p : PublisherTables) (s t : SubscriberTables) (letter : Letter) (b : Bool) → same_number letter.site.0 s.site.0 b
    → at_number subscribers s.site.0 ≡ Some s → s.seq ≤ t.seq → subscriber_last_closed s ≤ subscriber_last_closed t → (letter.site.0 ≡ s.site.0 → StillWaits (joined_at p letter.site) letter.site s t)
    → LetterFits subscribers p letter → LetterFits (put_number subscribers s.site.0 t) p letter
letter-at subscribers p s t letter true same at seq closed waits fits =
    let found : at_number subscribers letter.site.0 ≡ Some s = ap (λ (n : ℕ). at_number subscribers n) same ∙ at in
    let put : at_number (put_number subscribers s.site.0 t) letter.site.0 ≡ Some t = ap (λ (n : ℕ). at_number (put_number subscribers s.site.0 t) n) same ∙ at_put_same s.site.0 t subscribers in
    subst (λ (o : Option SubscriberTables). MessageFits (joined_at p letter.site) letter.site o letter.message) (sym put)
    (message-goes (joined_at p letter.site) letter.site s t seq closed (waits same) letter.message (subst (λ (o : Option SubscriberTables). MessageFits (joined_at p letter.site) letter.site o letter.message) found fits))
letter-at subscribers p s t letter false differs at seq closed waits fits =
    subst (λ (o : Option SubscriberTables). MessageFits (joined_at p letter.site) letter.site o letter.message) (sym (at_put_other s.site.0 letter.site.0 t subscribers differs)) fits

pub letters-go : (subscribers : List (ℕ × SubscriberTables)) (p : PublisherTables) (s t : SubscriberTables) → at_number subscribers s.site.0 ≡ Some s → s.seq ≤ t.seq → subscriber_last_closed s ≤ subscriber_last_closed t
    → ((site : SiteId) → site.0 ≡ s.site.0 → StillWaits (joined_at p site) site s t) → (pool : List Letter) → AllByRecursion (LetterFits subscribers p) pool → AllByRecursion (LetterFits (put_number subscribers s.site.0 t) p) pool
letters-go subscribers p s t at seq closed waits pool all =
    all-weaker (LetterFits subscribers p) (LetterFits (put_number subscribers s.site.0 t) p)
    (λ letter fits. letter-at subscribers p s t letter (letter.site.0 == s.site.0) (number-decided letter.site.0 s.site.0) at seq closed (waits letter.site) fits) pool all

fits-at : (subscribers : List (ℕ × SubscriberTables)) (p : PublisherTables) (s t u : SubscriberTables) (n : ℕ) (b : Bool) → same_number n s.site.0 b → SubscriberFits (received_by_number p s.site.0) s.site.0 t → AllFit subscribers p
    → at_number (put_number subscribers s.site.0 t) n ≡ Some u → SubscriberFits (received_by_number p n) n u
fits-at subscribers p s t u n true same fits all found =
    let put : at_number (put_number subscribers s.site.0 t) n ≡ Some t = ap (λ (k : ℕ). at_number (put_number subscribers s.site.0 t) k) same ∙ at_put_same s.site.0 t subscribers in
    let is_t : Some t ≡ Some u = sym put ∙ found in
    let same_tables : t ≡ u = cc in
    subst (λ (v : SubscriberTables). SubscriberFits (received_by_number p n) n v) same_tables (subst (λ (k : ℕ). SubscriberFits (received_by_number p k) k t) (sym same) fits)
fits-at subscribers p s t u n false differs fits all found = all n u (sym (at_put_other s.site.0 n t subscribers differs) ∙ found)

pub all-fit : (subscribers : List (ℕ × SubscriberTables)) (p : PublisherTables) (s t : SubscriberTables) → SubscriberFits (received_by_number p s.site.0) s.site.0 t → AllFit subscribers p → AllFit (put_number subscribers s.site.0 t) p
all-fit subscribers p s t fits all n u found = fits-at subscribers p s t u n (n == s.site.0) (number-decided n s.site.0) fits all found

-- The steps, one by one.

pub filling-closed : (filling : Filling) → (fill.filling_after_close filling).filled ≡ 0
filling-closed filling = grind (arith, nat_tests)

pub filling-rises : (filling : Filling) → filling.last_closed ≤ (fill.filling_after_close filling).last_closed
filling-rises filling = grind (arith, nat_tests)

pub filling-stays : (filling : Filling) → filling.filled ≡ 0 → (fill.filling_after_close filling).last_closed ≡ filling.last_closed
filling-stays filling empty = grind (arith, nat_tests, empty)

-- a closing
pub closing-goes : (received joined n : ℕ) (now : Moment) (s : SubscriberTables) → SubscriberFits received s.site.0 s → Goes received joined s (subscriber_closed (subscriber_at_moment now s))
closing-goes received joined n now s f = record {
  same_site = refl;
  seq = omega arith;
  closed = filling-rises s.gens.filling;
  fits = record {
    keyed = refl;
    idle = λ joining. filling-closed s.gens.filling;
    own = omega (arith, f.own, filling-rises s.gens.filling);
    last = f.last;
    taken = omega (arith, f.taken, filling-rises s.gens.filling);
  };
  waits = λ site m fits later. (let w = fits.2 later in (w.0, w.1 ∙ sym (filling-stays s.gens.filling (f.idle w.0))));
}

-- a message
pub message-goes-on : (received joined : ℕ) (sent : Outstanding) (s : SubscriberTables) → SubscriberFits received s.site.0 s → Goes received joined s (with_message sent s)
message-goes-on received joined sent s f = record {
  same_site = refl;
  seq = omega arith;
  closed = omega arith;
  fits = record { keyed = refl; idle = f.idle; own = f.own; last = λ seq other e. grind (arith, e); taken = f.taken };
  waits = λ site m fits later. fits.2 later;
}

-- a local change of a site that has joined
version-goes : (received joined : ℕ) (key : Key) (version : Option Version) (s u : SubscriberTables) → s.is_joined ≡ true → u.site ≡ s.site → u.seq ≡ s.seq → u.is_joined ≡ s.is_joined → u.gens ≡ s.gens → u.received ≡ s.received → u.outstanding ≡ s.outstanding
    → SubscriberFits received s.site.0 s → Goes received joined s (with_version_if key version u)
version-goes received joined key None s u joins site seq flag gens own out f = record {
  same_site = site;
  seq = omega (arith, seq);
  closed = grind (arith, gens);
  fits = record {
    keyed = ap (λ (x : SiteId). x.0) site;
    idle = λ joining. absurd (grind (arith, joining, flag, joins));
    own = grind (arith, gens, own, f.own);
    last = λ q sent e. f.last q sent (sym out ∙ e) ∙ sym seq;
    taken = grind (arith, gens, f.taken);
  };
  waits = λ x m fits later. absurd (grind (arith, (fits.2 later).0, joins));
}
version-goes received joined key (Some version) s u joins site seq flag gens own out f = record {
  same_site = site;
  seq = omega (arith, seq);
  closed = grind (arith, gens);
  fits = record {
    keyed = ap (λ (x : SiteId). x.0) site;
    idle = λ joining. absurd (grind (arith, joining, flag, joins));
    own = grind (arith, gens, own, f.own);
    last = λ q sent e. f.last q sent (sym out ∙ e) ∙ sym seq;
    taken = grind (arith, gens, f.taken);
  };
  waits = λ x m fits later. absurd (grind (arith, (fits.2 later).0, joins));
}

pub made-goes : (publication : Publication) (received joined : ℕ) (now : Moment) (change : Change) (s : SubscriberTables) (d : Value × List (ℕ × Holder)) → s.is_joined ≡ true → SubscriberFits received s.site.0 s
    → Goes received joined s (subscriber_made_locally publication change d (subscriber_at_moment now s)).0
made-goes publication received joined now change s d joins f =
    let t : SubscriberTables = subscriber_at_moment now s in
    let u : SubscriberTables = record t { changes = t.changes + 1; held = d.1 } in
    version-goes received joined (key_of (subscriber_next_dot t) change) (version_after publication (subscriber_next_dot t) d.0 change (subscriber_version_at t (key_of (subscriber_next_dot t) change))) s u joins refl refl refl refl refl refl f

-- making anew
pub anew-goes : (received joined : ℕ) (judge : SubscriberJudge) (now : Moment) (s : SubscriberTables) → SubscriberFits received s.site.0 s → Goes received joined s (result_of_reinit judge (subscriber_at_moment now s)).0
anew-goes received joined judge now s f = record {
  same_site = refl;
  seq = omega arith;
  closed = filling-rises s.gens.filling;
  fits = record {
    keyed = refl;
    idle = λ joining. filling-closed s.gens.filling;
    own = omega arith;
    last = λ q sent e. absurd (grind (arith, e));
    taken = omega (arith, f.taken, filling-rises s.gens.filling);
  };
  waits = λ site m fits later. (let w = fits.2 later in (refl, w.1 ∙ sym (filling-stays s.gens.filling (f.idle w.0))));
}

-- a version that is put or dropped leaves the conflict table alone
pub version-conflicts : (key : Key) (found : Option Version) (u : SubscriberTables) → (with_version_if key found u).conflicts ≡ u.conflicts
version-conflicts key None u = refl
version-conflicts key (Some version) u = refl
