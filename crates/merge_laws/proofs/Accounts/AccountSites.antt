-- A subscriber's tables go on: what is accounted for stays so.
use Rattle.std.specs.Prelude.{◌≡◌, ◌≤◌, ◌<◌, ◌==◌, ℕ, List, [], Bool, true, false, Option, Some, refl, nat_le, option_map, unwrap_or}
use Rattle.std.specs.List.{AllByRecursion, AllZip}
use Rattle.std.specs.List.Sorted.{IsStrictlySortedBy}
use Rattle.std.specs.Map.{keys_of}
use Rattle.std.proofs.Common.{arith, subst, sym, ap, ◌∙◌}
use Rattle.std.proofs.lemmas.Bool.Decides.{nat_tests}
use Rattle.merge_types.specs.declared.identifiers.Dot.{Dot}
use Rattle.merge_units.specs.declared.version.Version.{Version}
use Rattle.merge_schema.specs.declared.publication.Publication.{Publication}
use Rattle.merge_model.specs.History.{History, MadeChange, Past, has, no_past, past_at, past_in}
use Rattle.merge_types.specs.RowKeys.{key_cmp}
use Rattle.merge_model.specs.Tables.Keys.{at_number, put_number}
use Rattle.merge_model.specs.History.Pasts.{cell_count}
use Rattle.merge_model.specs.Subscriber.{subscriber_version_at}
use Rattle.merge_types.specs.declared.row_key.RowKey.{RowKey as Key}
use Rattle.merge_model.specs.Tables.{SubscriberTables}
use Rattle.merge_model.specs.declared.letter.Letter.{Letter}
use Rattle.merge_laws.specs.Facts.Accounts.{Accounts, Grown, GrownAlone, IsSafe, IsTraced, SendsAll, Traced, is_past, is_settled, received_of}
use Rattle.merge_laws.specs.Facts.Knowledge.{AllKnow, Knowledge, is_made}
use Rattle.merge_laws.specs.Facts.LetterNumbers.{AreNamed}
use Rattle.merge_laws.specs.Facts.LineagesStand.{OfMessage, is_of}
use Rattle.merge_laws.proofs.Accounts.AccountElements.{all-in, each-in}
use Rattle.merge_laws.proofs.Accounts.AccountHistory.{Goes, OfNew, SortedAt, all-new, alone-new, goes-safe, goes-traced, grown-new, others-new, traced-new, with_new}
use Rattle.merge_laws.proofs.Accounts.AccountLetters.{message-weaker}
use Rattle.merge_laws.proofs.Accounts.AccountRows.{KeepsLost}
use Rattle.merge_model.proofs.Lists.Finding.{all-weaker, at_put_other, at_put_same}
use Rattle.merge_laws.proofs.Known.Knowing.{IsFresh}
use Rattle.merge_laws.proofs.Known.KnownRows.{held-knows, past-knows}
use Rattle.merge_model.proofs.Lists.{all-both, zip-weaker}
use Rattle.merge_laws.proofs.Pasts.PastLookUps.{put-there}
use Rattle.merge_laws.proofs.Numbered.Telling.{decided}
use Rattle.merge_laws.proofs.Pasts.WorldLists.{all-subscribers}

-- what versions know was made of their rows
abbrev pub AreMade : List MadeChange → Key → Past → Type 0
AreMade made key past = (dot : Dot) → has past.known dot ≡ true → is_made made key dot ≡ true

abbrev pub HeldMade : History → Type 0
HeldMade h = (n : ℕ) (key : Key) → AreMade h.made key (past_at h n key)

abbrev pub SentMade : History → Type 0
SentMade h = AllByRecursion (λ (pasts : List (Key × Past)). (key : Key) → AreMade h.made key (past_in pasts key)) h.letters

pub held-made : (h : History) → Knowledge h → HeldMade h
held-made h knows n key = (held-knows h n key knows).made_here

pub sent-made : (h : History) → Knowledge h → SentMade h
sent-made h knows = all-weaker (AllKnow h.made) (λ (pasts : List (Key × Past)). (key : Key) → AreMade h.made key (past_in pasts key)) (λ pasts all key. (past-knows h.made key pasts all).made_here) h.letters knows.sent

-- who knows nothing
pub nothing-traced : (made : List MadeChange) (lost : List (ℕ × (Key × Past))) (purged : List Key) (here : Past) (key : Key) → Traced made lost purged here key no_past
nothing-traced made lost purged here key = record { holds = λ dot place is known. absurd cc; ends = λ dot is known. absurd cc }

pub received-own : (sites : List (ℕ × SubscriberTables)) (site : ℕ) (t : SubscriberTables) → received_of (put_number sites site t) site ≡ t.received
received-own sites site t = ap (λ (found : Option SubscriberTables). unwrap_or (option_map (λ (s : SubscriberTables). s.received) found) 0) (at_put_same site t sites)

received-other : (sites : List (ℕ × SubscriberTables)) (site n : ℕ) (t : SubscriberTables) → (n ≡ site → ⊥) → received_of (put_number sites site t) n ≡ received_of sites n
received-other sites site n t differs = ap (λ (found : Option SubscriberTables). unwrap_or (option_map (λ (s : SubscriberTables). s.received) found) 0) (at_put_other site n t sites differs)

-- what is settled afterwards was settled, or its site now takes it for received
still-settled : (sites : List (ℕ × SubscriberTables)) (site : ℕ) (t : SubscriberTables) (h : History) (c : MadeChange) (b : Bool) → (c.dot.site.0 == site) ≡ b → is_settled (put_number sites site t) h c ≡ true
    → (is_settled sites h c ≡ false → (is_of site c ≡ true) × (nat_le c.generation t.received ≡ true))
still-settled sites site t h c true is settled before =
    let same : c.dot.site.0 ≡ site = grind (arith, nat_tests, is) in
    let received : received_of (put_number sites site t) c.dot.site.0 ≡ t.received = ap (λ (n : ℕ). received_of (put_number sites site t) n) same ∙ received-own sites site t in
    (is, grind (arith, settled, before, received))
still-settled sites site t h c false is settled before =
    let received : received_of (put_number sites site t) c.dot.site.0 ≡ received_of sites c.dot.site.0 = received-other sites site c.dot.site.0 t (λ same. grind (arith, nat_tests, is, same)) in
    absurd (grind (arith, settled, before, received))

module _ (publication : Publication) (found : Key → Option Version) (sites : List (ℕ × SubscriberTables)) (pool : List Letter) (h : History) (a : Accounts publication found sites pool h) (site : ℕ) (away : site ≡ 0 → ⊥) (s t : SubscriberTables)
    (at : at_number sites site ≡ Some s) where
  named-put : AreNamed (put_number sites site t)
  named-put = all-subscribers (λ (n : ℕ) (u : SubscriberTables). n ≤ 63) sites site t (a.named site s at) (λ n u differs was. a.named n u was)

  -- what its site takes for received is safe
  settled-put : AllByRecursion (λ (c : MadeChange). is_of site c ≡ true → nat_le c.generation t.received ≡ true → IsSafe h c) h.made → AllByRecursion (λ (c : MadeChange). is_settled (put_number sites site t) h c ≡ true → IsSafe h c) h.made
  settled-put newly = all-both (λ (c : MadeChange). is_settled sites h c ≡ true → IsSafe h c) (λ (c : MadeChange). is_of site c ≡ true → nat_le c.generation t.received ≡ true → IsSafe h c) (λ (c : MadeChange). is_settled (put_number sites site t) h c ≡ true → IsSafe h c)
      (λ c old new settled. decided (is_settled sites h c) (is_settled sites h c) (IsSafe h c) refl (λ before. old before)
      (λ before. (let both = still-settled sites site t h c (c.dot.site.0 == site) refl settled before in new both.0 both.1))) h.made a.settled newly

  -- Its rows stay.
  pub site-accounts : ((key : Key) → subscriber_version_at t key ≡ subscriber_version_at s key) → s.received ≤ t.received → AllByRecursion (λ (c : MadeChange). is_of site c ≡ true → nat_le c.generation t.received ≡ true → IsSafe h c) h.made
      → Accounts publication found (put_number sites site t) pool h
  site-accounts same rises newly = record {
    publisher = a.publisher;
    subscribers = λ n u key version there. all-subscribers (λ (k : ℕ) (x : SubscriberTables). subscriber_version_at x key ≡ Some version → GrownAlone (cell_count publication key.article) h.made key version.body (past_at h k key).chains) sites site t
        (λ here. a.subscribers site s key version at (sym (same key) ∙ here)) (λ k x differs was here. a.subscribers k x key version was here) n u there;
    letters = a.letters;
    absent = a.absent;
    sorted = a.sorted;
    named = named-put;
    held = a.held;
    sent = a.sent;
    unsent = all-subscribers (λ (n : ℕ) (x : SubscriberTables). AllByRecursion (λ (c : MadeChange). is_of n c ≡ true → x.received < c.generation → has (past_at h n c.key).known c.dot ≡ true) h.made) sites site t
        (all-weaker (λ (c : MadeChange). is_of site c ≡ true → s.received < c.generation → has (past_at h site c.key).known c.dot ≡ true) (λ (c : MadeChange). is_of site c ≡ true → t.received < c.generation → has (past_at h site c.key).known c.dot ≡ true)
        (λ c old own above. old own (omega (arith, above, rises))) h.made (a.unsent site s at))
        (λ n x differs was. a.unsent n x was);
    uploads = a.uploads;
    settled = settled-put newly;
  }

  -- They change with their pasts, and more may be lost.
  module _ (new : Option MadeChange) (rows : List (Key × Past)) (lost : List (ℕ × (Key × Past))) where
    abbrev after : History
    after = record h { made = with_new new h.made; pasts = put_number h.pasts site rows; lost = lost }

    at-own : (q : Key) → past_at after site q ≡ past_in rows q
    at-own q = ap (λ (found : Option (List (Key × Past))). past_in (unwrap_or found []) q) (at_put_same site rows h.pasts)

    at-there : (n : ℕ) (q : Key) → (n ≡ site → ⊥) → past_at after n q ≡ past_at h n q
    at-there n q differs = ap (λ (es : List (Key × Past)). past_in es q) (put-there h.pasts site rows n differs)

    at-publisher : (q : Key) → past_at after 0 q ≡ past_at h 0 q
    at-publisher q = at-there 0 q (λ same. away (sym same))

    module _ (stay_lost : KeepsLost h lost) where
      pub site-goes : Goes h after
      site-goes = record {
        elsewhere = stay_lost;
        purged = λ q is. is;
        known = λ q dot is. (let now : has (past_at after 0 q).known dot ≡ true = subst (λ (p : Past). has p.known dot ≡ true) (sym (at-publisher q)) is in grind (arith, now));
        past = λ q dot deleted is. (let now : is_past (past_at after 0 q) dot ≡ true = subst (λ (p : Past). is_past p dot ≡ true) (sym (at-publisher q)) is in grind (arith, now));
      }

      module _ (held_made : HeldMade h) (sent_made : SentMade h) (fresh : OfNew (λ (c : MadeChange). IsFresh h.made c.dot) new) (own : OfNew (λ (c : MadeChange). c.dot.site.0 ≡ site) new) where
        old-traced : (q : Key) (other : Past) → ((dot : Dot) → has other.known dot ≡ true → is_made h.made q dot ≡ true) → IsTraced h q other → IsTraced after q other
        old-traced q other made traced = traced-new new h.made after.lost after.purged (past_at after 0 q) q other fresh made (goes-traced h after q other site-goes traced)

        module _ (sorted : IsStrictlySortedBy key_cmp (keys_of rows)) (grown : (key : Key) (version : Version) → subscriber_version_at t key ≡ Some version → GrownAlone (cell_count publication key.article) (with_new new h.made) key version.body (past_in rows key).chains)
            (traced : (key : Key) → Traced (with_new new h.made) lost h.purged (past_at h 0 key) key (past_in rows key))
            (unsent : AllByRecursion (λ (c : MadeChange). is_of site c ≡ true → t.received < c.generation → has (past_in rows c.key).known c.dot ≡ true) (with_new new h.made))
            (newly : AllByRecursion (λ (c : MadeChange). is_of site c ≡ true → nat_le c.generation t.received ≡ true → IsSafe h c) h.made)
            (sends : AllZip (λ (letter : Letter) (pasts : List (Key × Past)). SendsAll (with_new new h.made) pasts letter.message) pool h.letters)
            (safe : OfNew (λ (c : MadeChange). is_settled (put_number sites site t) h c ≡ true → IsSafe after c) new) where
          sorted-put : (n : ℕ) (b : Bool) → (n == site) ≡ b → SortedAt after.pasts n
          sorted-put n true is =
              let same : site ≡ n = grind (arith, nat_tests, is) in
              subst (λ (k : ℕ). SortedAt after.pasts k) same (subst (λ (found : Option (List (Key × Past))). IsStrictlySortedBy key_cmp (keys_of (unwrap_or found []))) (sym (at_put_same site rows h.pasts)) sorted)
          sorted-put n false is = subst (λ (es : List (Key × Past)). IsStrictlySortedBy key_cmp (keys_of es)) (sym (put-there h.pasts site rows n (λ same. grind (arith, nat_tests, is, same)))) (a.sorted n)

          held-put : (n : ℕ) (q : Key) (b : Bool) → (n == site) ≡ b → IsTraced after q (past_at after n q)
          held-put n q true is =
              let same : site ≡ n = grind (arith, nat_tests, is) in
              subst (λ (k : ℕ). IsTraced after q (past_at after k q)) same
              (subst (λ (p : Past). IsTraced after q p) (sym (at-own q)) (subst (λ (p : Past). Traced after.made after.lost after.purged p q (past_in rows q)) (sym (at-publisher q)) (traced q)))
          held-put n q false is = subst (λ (p : Past). IsTraced after q p) (sym (at-there n q (λ same. grind (arith, nat_tests, is, same)))) (old-traced q (past_at h n q) (held_made n q) (a.held n q))

          grown-put : (n : ℕ) (u : SubscriberTables) (key : Key) (version : Version) → at_number (put_number sites site t) n ≡ Some u → subscriber_version_at u key ≡ Some version
              → GrownAlone (cell_count publication key.article) (with_new new h.made) key version.body (past_at after n key).chains
          grown-put n u key version there = all-subscribers (λ (k : ℕ) (x : SubscriberTables). subscriber_version_at x key ≡ Some version → GrownAlone (cell_count publication key.article) (with_new new h.made) key version.body (past_at after k key).chains) sites site t
              (λ here. subst (λ (p : Past). GrownAlone (cell_count publication key.article) (with_new new h.made) key version.body p.chains) (sym (at-own key)) (grown key version here))
              (λ k x differs was here. subst (λ (p : Past). GrownAlone (cell_count publication key.article) (with_new new h.made) key version.body p.chains) (sym (at-there k key differs))
              (alone-new new (cell_count publication key.article) h.made key version.body (past_at h k key).chains (a.subscribers k x key version was here))) n u there

          unsent-put : (n : ℕ) (u : SubscriberTables) → at_number (put_number sites site t) n ≡ Some u → AllByRecursion (λ (c : MadeChange). is_of n c ≡ true → u.received < c.generation → has (past_at after n c.key).known c.dot ≡ true) (with_new new h.made)
          unsent-put = all-subscribers (λ (n : ℕ) (x : SubscriberTables). AllByRecursion (λ (c : MadeChange). is_of n c ≡ true → x.received < c.generation → has (past_at after n c.key).known c.dot ≡ true) (with_new new h.made)) sites site t
              (all-weaker (λ (c : MadeChange). is_of site c ≡ true → t.received < c.generation → has (past_in rows c.key).known c.dot ≡ true) (λ (c : MadeChange). is_of site c ≡ true → t.received < c.generation → has (past_at after site c.key).known c.dot ≡ true)
              (λ c old mine above. subst (λ (p : Past). has p.known c.dot ≡ true) (sym (at-own c.key)) (old mine above)) (with_new new h.made) unsent)
              (λ n x differs was. others-new new site n (λ (c : MadeChange). x.received < c.generation → has (past_at after n c.key).known c.dot ≡ true) h.made own differs
              (all-weaker (λ (c : MadeChange). is_of n c ≡ true → x.received < c.generation → has (past_at h n c.key).known c.dot ≡ true) (λ (c : MadeChange). is_of n c ≡ true → x.received < c.generation → has (past_at after n c.key).known c.dot ≡ true)
              (λ c old mine above. subst (λ (p : Past). has p.known c.dot ≡ true) (sym (at-there n c.key differs)) (old mine above)) h.made (a.unsent n x was)))

          pub sub-accounts : Accounts publication found (put_number sites site t) pool after
          sub-accounts = record {
            publisher = λ key version here. subst (λ (p : Past). Grown (cell_count publication key.article) (with_new new h.made) key version.body p.chains) (sym (at-publisher key))
                (grown-new new (cell_count publication key.article) h.made key version.body (past_at h 0 key).chains (a.publisher key version here));
            subscribers = grown-put;
            letters = zip-weaker (λ (letter : Letter) (pasts : List (Key × Past)). OfMessage (λ (k : Key) (version : Version) (p : Past). GrownAlone (cell_count publication k.article) h.made k version.body p.chains) pasts letter.message)
                (λ (letter : Letter) (pasts : List (Key × Past)). OfMessage (λ (k : Key) (version : Version) (p : Past). GrownAlone (cell_count publication k.article) (with_new new h.made) k version.body p.chains) pasts letter.message)
                (λ letter pasts is. message-weaker (λ (k : Key) (version : Version) (p : Past). GrownAlone (cell_count publication k.article) h.made k version.body p.chains)
                (λ (k : Key) (version : Version) (p : Past). GrownAlone (cell_count publication k.article) (with_new new h.made) k version.body p.chains)
                (λ k version p. alone-new new (cell_count publication k.article) h.made k version.body p.chains) pasts letter.message is) pool h.letters a.letters;
            absent = λ key none dot. subst (λ (p : Past). has p.known dot ≡ false) (sym (at-publisher key)) (a.absent key none dot);
            sorted = λ n. sorted-put n (n == site) refl;
            named = named-put;
            held = λ n q. held-put n q (n == site) refl;
            sent = each-in (λ (pasts : List (Key × Past)). (k : Key) → IsTraced after k (past_in pasts k)) h.letters (λ pasts is k. old-traced k (past_in pasts k) (all-in (λ (ps : List (Key × Past)). (x : Key) → AreMade h.made x (past_in ps x)) h.letters pasts sent_made is k)
                (all-in (λ (ps : List (Key × Past)). (x : Key) → IsTraced h x (past_in ps x)) h.letters pasts a.sent is k));
            unsent = unsent-put;
            uploads = sends;
            settled = all-new new (λ (c : MadeChange). is_settled (put_number sites site t) h c ≡ true → IsSafe after c) h.made safe
                (all-weaker (λ (c : MadeChange). is_settled (put_number sites site t) h c ≡ true → IsSafe h c) (λ (c : MadeChange). is_settled (put_number sites site t) h c ≡ true → IsSafe after c) (λ c is settled. goes-safe h after c site-goes (is settled)) h.made (settled-put newly));
          }
