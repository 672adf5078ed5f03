-- What becomes of what versions hold, as conflict tables grow, rows are purged, changes are made and the publisher's rows go on.
use Rattle.std.specs.Prelude.{◌≡◌, ◌==◌, ◌||◌, ℕ, List, [], ◌∷◌, Bool, true, false, Option, Some, None, refl, unwrap_or}
use Rattle.std.specs.List.{AllByRecursion}
use Rattle.std.specs.List.Sorted.{IsStrictlySortedBy}
use Rattle.std.specs.Map.{keys_of}
use Rattle.std.proofs.Common.{arith, subst, sym, ap}
use Rattle.std.proofs.lemmas.Bool.Decides.{nat_tests}
use Rattle.merge_types.specs.declared.identifiers.Dot.{Dot}
use Rattle.merge_units.specs.declared.version.Body.{Body}
use Rattle.merge_table.proofs.Sorted.{sorted_put}
use Rattle.merge_model.proofs.Publishers.Sorted.{key_total}
use Rattle.merge_model.specs.History.{Chains, History, MadeChange, Past, has, past_at, past_in, pasts_at}
use Rattle.merge_types.specs.RowKeys.{key_cmp}
use Rattle.merge_model.specs.Tables.Keys.{at_number, has_key, put_number, put_row}
use Rattle.merge_model.specs.Laws.Promises.{InRow, Place}
use Rattle.merge_types.specs.declared.row_key.RowKey.{RowKey as Key}
use Rattle.merge_laws.specs.Facts.Accounts.{Grown, GrownAlone, IsSafe, IsTraced, Traced, is_kept_elsewhere, is_made_at, is_past}
use Rattle.merge_laws.specs.Facts.Knowledge.{is_made, same_dot}
use Rattle.merge_laws.specs.Facts.LineagesStand.{is_of}
use Rattle.merge_laws.proofs.Accounts.AccountChains.{alone-later, grown-later}
use Rattle.merge_laws.proofs.Known.Knowing.{IsFresh, fresh-any}
use Rattle.merge_laws.proofs.Pasts.PastLookUps.{put-here, put-there}
use Rattle.merge_laws.proofs.Pasts.DotTests.{dots-same}

-- How a history goes on: what is kept elsewhere stays so, and what the publisher knows, and which deletes are past there, stay so too, unless
-- the row is purged.
pub record Goes (h after : History) : Type 0 where
  pub elsewhere : (key : Key) (place : Place) (dot : Dot) → is_kept_elsewhere h.lost h.purged key place dot ≡ true → is_kept_elsewhere after.lost after.purged key place dot ≡ true
  pub purged : (key : Key) → has_key h.purged key ≡ true → has_key after.purged key ≡ true
  pub known : (key : Key) (dot : Dot) → has (past_at h 0 key).known dot ≡ true → (has (past_at after 0 key).known dot || has_key after.purged key) ≡ true
  pub past : (key : Key) (dot : Dot) → is_made_at h.made key dot InRow ≡ true → is_past (past_at h 0 key) dot ≡ true → (is_past (past_at after 0 key) dot || has_key after.purged key) ≡ true

pub goes-traced : (h after : History) (key : Key) (past : Past) → Goes h after → IsTraced h key past → Traced h.made after.lost after.purged (past_at after 0 key) key past
goes-traced h after key past goes traced = record {
  holds = λ dot place made known. (
      let held = traced.holds dot place made known in
      let up = goes.elsewhere key place dot in
      grind (arith, held, up)
      );
  ends = λ dot made known. (
      let ended = traced.ends dot made known in
      let up = goes.past key dot made in
      let more = goes.purged key in
      grind (arith, ended, up, more)
      );
}

pub goes-safe : (h after : History) (change : MadeChange) → Goes h after → IsSafe h change → IsSafe after change
goes-safe h after change goes safe place does =
    let was = safe place does in
    let known = goes.known change.key change.dot in
    let up = goes.elsewhere change.key place change.dot in
    grind (arith, was, known, up)

pub goes-nowhere : (h : History) → Goes h h
goes-nowhere h = record {
  elsewhere = λ key place dot is. is;
  purged = λ key is. is;
  known = λ key dot is. grind (arith, is);
  past = λ key dot made is. grind (arith, is);
}

pub goes-on : (h middle after : History) → Goes h middle → Goes middle after → ((key : Key) (dot : Dot) → is_made_at h.made key dot InRow ≡ true → is_made_at middle.made key dot InRow ≡ true) → Goes h after
goes-on h middle after one other more = record {
  elsewhere = λ key place dot is. other.elsewhere key place dot (one.elsewhere key place dot is);
  purged = λ key is. other.purged key (one.purged key is);
  known = λ key dot is. (
      let first = one.known key dot is in
      let second = other.known key dot in
      let third = other.purged key in
      grind (arith, first, second, third)
      );
  past = λ key dot made is. (
      let first = one.past key dot made is in
      let second = other.past key dot (more key dot made) in
      let third = other.purged key in
      grind (arith, first, second, third)
      );
}

-- A change more, or none.

abbrev pub with_new : Option MadeChange → List MadeChange → List MadeChange
with_new None made = made
with_new (Some change) made = change ∷ made

abbrev pub OfNew : (MadeChange → Type 0) → Option MadeChange → Type 0
OfNew P None = Unit {0}
OfNew P (Some change) = P change

pub grown-new : (new : Option MadeChange) (cells : ℕ) (made : List MadeChange) (key : Key) (body : Body) (chains : Chains) → Grown cells made key body chains → Grown cells (with_new new made) key body chains
grown-new None cells made key body chains grown = grown
grown-new (Some c) cells made key body chains grown = grown-later c cells made key body chains grown

pub alone-new : (new : Option MadeChange) (cells : ℕ) (made : List MadeChange) (key : Key) (body : Body) (chains : Chains) → GrownAlone cells made key body chains → GrownAlone cells (with_new new made) key body chains
alone-new None cells made key body chains grown = grown
alone-new (Some c) cells made key body chains grown = alone-later c cells made key body chains grown

pub made-new : (new : Option MadeChange) (made : List MadeChange) (key : Key) (dot : Dot) (place : Place) → is_made_at made key dot place ≡ true → is_made_at (with_new new made) key dot place ≡ true
made-new None made key dot place is = is
made-new (Some c) made key dot place is = grind (arith, is)

-- of what is known a new change made nothing
pub known-before : (c : MadeChange) (made : List MadeChange) (key : Key) (dot : Dot) (place : Place) → IsFresh made c.dot → is_made made key dot ≡ true → is_made_at (c ∷ made) key dot place ≡ true → is_made_at made key dot place ≡ true
known-before c made key dot place fresh was is = by-test (same_dot c.dot dot) refl
  where
    by-test : (b : Bool) → same_dot c.dot dot ≡ b → is_made_at made key dot place ≡ true
    by-test false e = grind (arith, e, is)
    by-test true e =
        let no : is_made made key dot ≡ false = subst (λ (x : Dot). is_made made key x ≡ false) (dots-same c.dot dot e) (fresh-any made key c.dot fresh) in
        absurd (grind (arith, no, was))

pub traced-new : (new : Option MadeChange) (made : List MadeChange) (lost : List (ℕ × (Key × Past))) (purged : List Key) (here : Past) (key : Key) (past : Past) → OfNew (λ (c : MadeChange). IsFresh made c.dot) new
    → ((dot : Dot) → has past.known dot ≡ true → is_made made key dot ≡ true) → Traced made lost purged here key past → Traced (with_new new made) lost purged here key past
traced-new None made lost purged here key past fresh knows traced = traced
traced-new (Some c) made lost purged here key past fresh knows traced = record {
  holds = λ dot place is known. traced.holds dot place (known-before c made key dot place fresh (knows dot known) is) known;
  ends = λ dot is known. traced.ends dot (known-before c made key dot InRow fresh (knows dot known) is) known;
}

pub others-new : (new : Option MadeChange) (site n : ℕ) (P : MadeChange → Type 0) (made : List MadeChange) → OfNew (λ (c : MadeChange). c.dot.site.0 ≡ site) new → (n ≡ site → ⊥)
    → AllByRecursion (λ (c : MadeChange). is_of n c ≡ true → P c) made → AllByRecursion (λ (c : MadeChange). is_of n c ≡ true → P c) (with_new new made)
others-new None site n P made own differs all = all
others-new (Some c) site n P made own differs all = (λ is. absurd (let same : n ≡ site = grind (arith, nat_tests, is, own) in differs same), all)

pub all-new : (new : Option MadeChange) (P : MadeChange → Type 0) (made : List MadeChange) → OfNew P new → AllByRecursion P made → AllByRecursion P (with_new new made)
all-new None P made own all = all
all-new (Some c) P made own all = (own, all)

-- with_past, by site and key
abbrev pub put_pasts : History → ℕ → Key → Past → List (ℕ × List (Key × Past))
put_pasts h site key past = put_number h.pasts site (put_row (pasts_at h site) key past)

abbrev pub past_of : List (ℕ × List (Key × Past)) → ℕ → Key → Past
past_of pasts site key = past_in (unwrap_or (at_number pasts site) []) key

pub at-other-site : (h : History) (site other : ℕ) (key q : Key) (past : Past) → (other ≡ site → ⊥) → past_of (put_pasts h site key past) other q ≡ past_at h other q
at-other-site h site other key q past differs = ap (λ (rows : List (Key × Past)). past_in rows q) (put-there h.pasts site (put_row (pasts_at h site) key past) other differs)

abbrev pub SortedAt : List (ℕ × List (Key × Past)) → ℕ → Type 0
SortedAt pasts site = IsStrictlySortedBy key_cmp (keys_of (unwrap_or (at_number pasts site) []))

pub sorted-at : (h : History) (site : ℕ) (key : Key) (past : Past) (n : ℕ) (b : Bool) → (n == site) ≡ b → ((n : ℕ) → SortedAt h.pasts n) → SortedAt (put_pasts h site key past) n
sorted-at h site key past n true is sorted =
    let same : site ≡ n = grind (arith, nat_tests, is) in
    subst (λ (k : ℕ). SortedAt (put_pasts h site key past) k) same (subst (λ (rows : List (Key × Past)). IsStrictlySortedBy key_cmp (keys_of rows)) (sym (put-here h.pasts site (put_row (pasts_at h site) key past))) (sorted_put key_cmp key_total key past (pasts_at h site) (sorted site)))
sorted-at h site key past n false is sorted =
    subst (λ (rows : List (Key × Past)). IsStrictlySortedBy key_cmp (keys_of rows)) (sym (put-there h.pasts site (put_row (pasts_at h site) key past) n (λ same. grind (arith, nat_tests, is, same)))) (sorted n)
