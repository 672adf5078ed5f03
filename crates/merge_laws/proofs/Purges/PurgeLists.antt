-- Of the generations that close, of the moment that a book has of a generation, and of states by their sites.
use Rattle.std.specs.Prelude.{◌≡◌, ◌≤◌, ◌<◌, ◌==◌, ◌+◌, ◌-◌, ℕ, zero, suc, List, [], ◌∷◌, Bool, true, false, Option, Some, None, refl, map, filter, find, cond, option_map, unwrap_or, IfSome, nat_le}
use Rattle.std.specs.List.{AllByRecursion, range_with_len}
use Rattle.std.specs.BTreeMap.{is_at}
use Rattle.std.specs.Ordering.{nat_cmp}
use Rattle.std.proofs.Common.{arith, subst, sym}
use Rattle.std.proofs.lemmas.Bool.Decides.{nat_tests}
use Rattle.merge_types.specs.declared.identifiers.Moment.{Moment}
use Rattle.merge_gens.specs.declared.closings.Closing.{Closing}
use Rattle.merge_gens.specs.declared.filling.Filling.{Filling}
use Rattle.merge_gens.specs.Book.{Book, book_after_purge, closing_at, closings_between, moment_of, moved_to}
use Rattle.merge_model.specs.Tables.Keys.{at_number, put_number}
use Rattle.merge_laws.specs.Facts.Purges.{AllClosings, ClosedBefore, ClosedInOrder, SiteInStep}
use Rattle.merge_model.proofs.Lists.Finding.{all-weaker, at_put_other, at_put_same}
use Rattle.merge_model.proofs.Lists.{all-append, all-both, all-filter, all-of}
use Rattle.merge_laws.proofs.Received.Subscribing.{number-decided, same_number}

-- Generations that close.

-- one of those that close now
pub record ClosesNow (from to moment : ℕ) (c : Closing) : Type 0 where
  pub behind : from < c.generation
  pub up : c.generation ≤ to
  pub now : c.moment.0 ≡ moment

closes-more : (from to moment : ℕ) (c : Closing) → ClosesNow (from + 1) to moment c → ClosesNow from to moment c
closes-more from to moment c now = record { behind = omega (arith, now.behind); up = now.up; now = now.now }

ranged-now : (from to n : ℕ) (moment : Moment) → from + n ≤ to → AllByRecursion (ClosesNow from to moment.0) (map (closing_at moment) (range_with_len (from + 1) n))
ranged-now from to zero moment up = tt
ranged-now from to (suc n) moment up = (
  record { behind = omega arith; up = omega (arith, up); now = refl },
  all-weaker (ClosesNow (from + 1) to moment.0) (ClosesNow from to moment.0) (λ c now. closes-more from to moment.0 c now)
      (map (closing_at moment) (range_with_len (from + 1 + 1) n)) (ranged-now (from + 1) to n moment (omega (arith, up))),
)

closing-now : (from to : ℕ) (moment : Moment) → from ≤ to → AllByRecursion (ClosesNow from to moment.0) (closings_between from to moment)
closing-now from to moment up = ranged-now from to (to - from) moment (omega (arith, up))

module _ (latest : ℕ) (book : Book) (filling : Filling) (moment : Moment) (now : moment.0 ≡ latest) (up : book.filling.last_closed ≤ filling.last_closed) where
  abbrev new : List Closing
  new = closings_between book.filling.last_closed filling.last_closed moment

  abbrev IsNew : Closing → Type 0
  IsNew c = ClosesNow book.filling.last_closed filling.last_closed moment.0 c

  are-new : AllByRecursion IsNew new
  are-new = closing-now book.filling.last_closed filling.last_closed moment up

  -- the ones that were kept, and the new ones
  all-moved : (P : Closing → Type 0) → AllClosings P book → ((c : Closing) → IsNew c → P c) → AllClosings P (moved_to book filling moment)
  all-moved P old each = all-append P book.closings new old (all-weaker IsNew P each new are-new)

  before-new : (a c : Closing) → a.moment.0 ≤ latest → IsNew c → ClosedBefore a c
  before-new a c been fresh less = omega (arith, been, fresh.now, now)

  new-before : (a c : Closing) → IsNew a → c.generation ≤ book.filling.last_closed → ClosedBefore a c
  new-before a c fresh old less = absurd (omega (arith, less, fresh.behind, old))

  new-new : (a c : Closing) → IsNew a → IsNew c → ClosedBefore a c
  new-new a c first second less = omega (arith, first.now, second.now)

  pub moved-in-order : ClosedInOrder latest book → ClosedInOrder latest (moved_to book filling moment)
  moved-in-order o = record {
    closed = all-moved (λ (c : Closing). c.generation ≤ filling.last_closed)
        (all-weaker (λ (c : Closing). c.generation ≤ book.filling.last_closed) (λ (c : Closing). c.generation ≤ filling.last_closed) (λ c low. omega (arith, low, up)) book.closings o.closed) (λ c fresh. fresh.up);
    been = all-moved (λ (c : Closing). c.moment.0 ≤ latest) o.been (λ c fresh. omega (arith, fresh.now, now));
    rising = all-moved (λ (a : Closing). AllClosings (ClosedBefore a) (moved_to book filling moment))
        (all-both (λ (a : Closing). AllClosings (ClosedBefore a) book) (λ (a : Closing). a.moment.0 ≤ latest) (λ (a : Closing). AllClosings (ClosedBefore a) (moved_to book filling moment))
        (λ a rises been. all-moved (ClosedBefore a) rises (λ c fresh. before-new a c been fresh)) book.closings o.rising o.been)
        (λ a fresh. all-moved (ClosedBefore a) (all-weaker (λ (c : Closing). c.generation ≤ book.filling.last_closed) (ClosedBefore a) (λ c old. new-before a c fresh old) book.closings o.closed) (λ c also. new-new a c fresh also));
  }

  pub moved-in-step : (base watermark last_sync : ℕ) → SiteInStep latest book base watermark last_sync → SiteInStep latest (moved_to book filling moment) base watermark last_sync
  moved-in-step base watermark last_sync s = record {
    been = s.been;
    since = all-moved (λ (c : Closing). watermark < c.generation → base < c.generation → last_sync ≤ c.moment.0) s.since (λ c fresh above behind. omega (arith, s.been, fresh.now, now));
  }

-- what is forgotten
pub purged-in-order : (latest : ℕ) (book : Book) (cutoff : Moment) → ClosedInOrder latest book → ClosedInOrder latest (book_after_purge book cutoff)
purged-in-order latest book cutoff o =
    let keeps : Closing → Bool = λ c. nat_le cutoff.0 c.moment.0 in
    record {
      closed = all-filter (λ (c : Closing). c.generation ≤ book.filling.last_closed) keeps book.closings o.closed;
      been = all-filter (λ (c : Closing). c.moment.0 ≤ latest) keeps book.closings o.been;
      rising = all-filter (λ (a : Closing). AllByRecursion (ClosedBefore a) (filter keeps book.closings)) keeps book.closings
          (all-weaker (λ (a : Closing). AllByRecursion (ClosedBefore a) book.closings) (λ (a : Closing). AllByRecursion (ClosedBefore a) (filter keeps book.closings))
          (λ a rises. all-filter (ClosedBefore a) keeps book.closings rises) book.closings o.rising);
    }

pub purged-in-step : (latest : ℕ) (book : Book) (cutoff : Moment) (base watermark last_sync : ℕ) → SiteInStep latest book base watermark last_sync → SiteInStep latest (book_after_purge book cutoff) base watermark last_sync
purged-in-step latest book cutoff base watermark last_sync s = record {
  been = s.been;
  since = all-filter (λ (c : Closing). watermark < c.generation → base < c.generation → last_sync ≤ c.moment.0) (λ (c : Closing). nat_le cutoff.0 c.moment.0) book.closings s.since;
}

-- the moment rises
pub order-later : (latest after : ℕ) (book : Book) → latest ≤ after → ClosedInOrder latest book → ClosedInOrder after book
order-later latest after book up o = record {
  closed = o.closed;
  been = all-weaker (λ (c : Closing). c.moment.0 ≤ latest) (λ (c : Closing). c.moment.0 ≤ after) (λ c been. omega (arith, been, up)) book.closings o.been;
  rising = o.rising;
}

pub step-later : (latest after : ℕ) (book : Book) (base watermark last_sync : ℕ) → latest ≤ after → SiteInStep latest book base watermark last_sync → SiteInStep after book base watermark last_sync
step-later latest after book base watermark last_sync up s = record { been = omega (arith, s.been, up); since = s.since }

-- What is found.

-- the moment of a generation, 0 where it is not kept
abbrev pub closed_at : List Closing → ℕ → ℕ
closed_at closings generation = unwrap_or (moment_of closings generation) 0

abbrev found_head : Bool → Closing → Option Closing → ℕ
found_head b c rest = unwrap_or (option_map (λ (c : Closing). c.moment.0) (cond b (Some c) rest)) 0

head-been : (latest : ℕ) (b : Bool) (c : Closing) (rest : Option Closing) → c.moment.0 ≤ latest → unwrap_or (option_map (λ (c : Closing). c.moment.0) rest) 0 ≤ latest → found_head b c rest ≤ latest
head-been latest true c rest first second = first
head-been latest false c rest first second = second

pub found-been : (latest generation : ℕ) (closings : List Closing) → AllByRecursion (λ (c : Closing). c.moment.0 ≤ latest) closings → closed_at closings generation ≤ latest
found-been latest generation [] all = omega arith
found-been latest generation (c ∷ closings) all = head-been latest (c.generation == generation) c (find (λ (c : Closing). c.generation == generation) closings) all.0 (found-been latest generation closings all.1)

-- a generation that is found closed no later than those behind it
head-before : (generation : ℕ) (b : Bool) (a c : Closing) (rest : Option Closing) → (a.generation == generation) ≡ b → ClosedBefore a c → (generation < c.generation → unwrap_or (option_map (λ (c : Closing). c.moment.0) rest) 0 ≤ c.moment.0)
    → generation < c.generation → found_head b a rest ≤ c.moment.0
head-before generation true a c rest here first second less = first (let same : a.generation ≡ generation = grind (arith, nat_tests, here) in omega (arith, same, less))
head-before generation false a c rest here first second less = second less

-- so it is of each of them
pub found-before : (generation : ℕ) (all closings : List Closing) → AllByRecursion (λ (a : Closing). AllByRecursion (ClosedBefore a) all) closings
    → AllByRecursion (λ (c : Closing). generation < c.generation → closed_at closings generation ≤ c.moment.0) all
found-before generation all [] rises = all-of (λ (c : Closing). generation < c.generation → 0 ≤ c.moment.0) (λ c less. omega arith) all
found-before generation all (a ∷ closings) rises =
    all-both (ClosedBefore a) (λ (c : Closing). generation < c.generation → closed_at closings generation ≤ c.moment.0) (λ (c : Closing). generation < c.generation → closed_at (a ∷ closings) generation ≤ c.moment.0)
    (λ c first second less. head-before generation (a.generation == generation) a c (find (λ (c : Closing). c.generation == generation) closings) refl first second less) all rises.0 (found-before generation all closings rises.1)

-- what holds of all holds of the one that is found
pub found-at : (P : ℕ → ℕ → Type 0) (generation moment : ℕ) (closings : List Closing) → AllByRecursion (λ (c : Closing). P c.generation c.moment.0) closings → moment_of closings generation ≡ Some moment → P generation moment
found-at P generation moment [] all at = absurd (grind (arith, at))
found-at P generation moment (c ∷ closings) all at = elim (c.generation == generation)
    as (λ (b : Bool). (c.generation == generation) ≡ b → (let found : Option Closing = cond b (Some c) (find (λ (c : Closing). c.generation == generation) closings) in option_map (λ (c : Closing). c.moment.0) found) ≡ Some moment → P generation moment) [
      | true ↦ (λ here found. (let same : c.generation ≡ generation = grind (arith, nat_tests, here) in
          let then : c.moment.0 ≡ moment = cc in
          subst (λ (m : ℕ). P generation m) then (subst (λ (g : ℕ). P g c.moment.0) same all.0)))
      | false ↦ (λ there found. found-at P generation moment closings all.1 found)
    ] refl at

-- A list of states, with one put, or each gone over.

put-at : {V : Type 0} (P : ℕ → V → Type 0) (site : ℕ) (v : V) (es : List (ℕ × V)) → P site v → ((n : ℕ) → (n ≡ site → ⊥) → IfSome (at_number es n) (P n)) → (n : ℕ) (b : Bool) → same_number n site b → IfSome (at_number (put_number es site v) n) (P n)
put-at {V = V} P site v es here all n true same = subst (λ (k : ℕ). IfSome (at_number (put_number es site v) k) (P k)) (sym same) (subst (λ (o : Option V). IfSome o (P site)) (sym (at_put_same site v es)) here)
put-at {V = V} P site v es here all n false differs = subst (λ (o : Option V). IfSome o (P n)) (sym (at_put_other site n v es differs)) (all n differs)

pub if-put : {V : Type 0} (P : ℕ → V → Type 0) (site : ℕ) (v : V) (es : List (ℕ × V)) → P site v → ((n : ℕ) → (n ≡ site → ⊥) → IfSome (at_number es n) (P n)) → (n : ℕ) → IfSome (at_number (put_number es site v) n) (P n)
if-put P site v es here all n = put-at P site v es here all n (n == site) (number-decided n site)

pub if-weaker : {V : Type 0} (P Q : V → Type 0) → ((v : V) → P v → Q v) → (o : Option V) → IfSome o P → IfSome o Q
if-weaker P Q each None all = tt
if-weaker P Q each (Some v) all = each v all

if-head : {V : Type 0} (P : V → Type 0) (x y : V) (rest more : Option V) (b : Bool) → (P x → P y) → (IfSome rest P → IfSome more P) → IfSome (cond b (Some x) rest) P → IfSome (cond b (Some y) more) P
if-head P x y rest more true first second all = first all
if-head P x y rest more false first second all = second all

pub if-map : {V : Type 0} (P : V → Type 0) (f : ℕ × V → ℕ × V) → ((e : ℕ × V) → (f e).0 ≡ e.0) → ((e : ℕ × V) → P e.1 → P (f e).1) → (n : ℕ) (es : List (ℕ × V)) → IfSome (at_number es n) P → IfSome (at_number (map f es) n) P
if-map P f same keeps n [] all = tt
if-map {V = V} P f same keeps n (e ∷ es) all =
    subst (λ (k : ℕ). (let found : Option V = cond (is_at (nat_cmp n) k) (Some (f e).1) (at_number (map f es) n) in IfSome found P)) (sym (same e))
    (if-head P e.1 (f e).1 (at_number es n) (at_number (map f es) n) (is_at (nat_cmp n) e.0) (keeps e) (if-map P f same keeps n es) all)
