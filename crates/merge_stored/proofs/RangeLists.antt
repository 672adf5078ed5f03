-- The records of what is held and granted stand in the order of their keys, each grant once.
use Rattle.std.specs.BTreeMap.{insert_entry}
use Rattle.std.specs.List.{AllByRecursion, count_by}
use Rattle.std.specs.List.Sorted.{IsStrictlySortedBy}
use Rattle.std.specs.Map.{keys_of}
use Rattle.std.specs.Ordering.{match_ordering, nat_cmp}
use Rattle.std.specs.Prelude.{Bool, List, [], false, map, nat_le, refl, true, ℕ, ◌&&◌, ◌++◌, ◌+◌, ◌<◌, ◌==◌, ◌^◌, ◌≡◌, ◌≤◌, ◌∷◌, if◌then◌else◌}
use Rattle.std.specs.declared.cmp.Ordering.{Ordering}
use Rattle.std.specs.declared.cmp.Ordering.TheVariants.{Equal, Greater, Less}
use Rattle.std.proofs.Common.{ap, arith, subst, sym, ◌∙◌}
use Rattle.std.proofs.lemmas.Bool.Decides.{nat_tests}
use Rattle.merge_table.proofs.Room.{AreAbove}
use Rattle.merge_table.proofs.Sorted.{sorted_after_all}
use Rattle.merge_table.specs.Edits.{rows_after_all}
use Rattle.merge_ident.specs.Grants.{AreNumbered, granted_to, is_numbered}
use Rattle.merge_ident.specs.Holders.{Holder}
use Rattle.merge_ident.specs.declared.grants.Grant.{Grant}
use Rattle.merge_ports.specs.Entries.{entry_cmp, entry_exact}
use Rattle.merge_ports.specs.declared.entry.EntryKey.{EntryKey}
use Rattle.merge_record.specs.declared.ranges.GrantKey.{GrantKey}
use Rattle.merge_keeper.specs.Encoded.{puts_of}
use Rattle.merge_keeper.specs.Entries.{grant_key, grant_key_in, held_key}
use Rattle.merge_keeper.specs.PublisherRules.{held_pair}
use Rattle.merge_keeper.specs.Stored.{HasGrantKey}
use Rattle.merge_keeper.specs.declared.publisher_record.PublisherRecord.{PublisherRecord}
use Rattle.merge_keeper.specs.declared.publisher_record.PublisherRecord.TheVariants.{Granted}
use Rattle.merge_keeper.proofs.Follow.{grant_apart, held_keys_order, keys_apart}
use Rattle.merge_keeper.proofs.KeptLemmas.{entry_total}
use Rattle.merge_keeper.proofs.PublisherReads.{entry_of}
use Rattle.merge_model.proofs.Entries.EntryLists.{all-put}
use Rattle.merge_model.proofs.Lists.{all-both, all-of}
use Rattle.merge_stored.proofs.Tallies.{count-tally, counted, none-pass, second-all, tally, tally-none}

abbrev pub Pair : Type 0
Pair = EntryKey × PublisherRecord

abbrev pub granted : List Pair → List Grant → List Pair
granted es gs = rows_after_all entry_cmp es (puts_of grant_key Granted gs)

abbrev pub pair_of : Grant → Pair
pair_of g = (grant_key g, Granted g)

pub all-granted : (Q : Pair → Type 0) (gs : List Grant) (es : List Pair) → AllByRecursion (λ (g : Grant). Q (pair_of g)) gs → AllByRecursion Q es → AllByRecursion Q (granted es gs)
all-granted Q [] es new all = all
all-granted Q (g ∷ gs) es new all =
    all-granted Q gs (insert_entry entry_cmp es (grant_key g) (Granted g)) new.1
    (all-put Q entry_cmp (grant_key g) (Granted g) (λ q tied. subst (λ (k : EntryKey). Q (k, Granted g)) (entry_exact (grant_key g) q tied) new.0) new.0 es all)

-- Each is counted once.

abbrev IsFresh : EntryKey → Pair → Type 0
IsFresh k e = entry_cmp k e.0 ≡ Equal → ⊥

put-by : (o : Ordering) (p : Pair → Bool) (k : EntryKey) (v : PublisherRecord) (e : Pair) (es more : List Pair) → (o ≡ Equal → ⊥) → tally p more ≡ counted (p (k, v)) + tally p es
    → tally p (match_ordering o ((k, v) ∷ e ∷ es) ((e.0, v) ∷ es) (e ∷ more)) ≡ counted (p (k, v)) + tally p (e ∷ es)
put-by Less p k v e es more fresh rest = refl
put-by Equal p k v e es more fresh rest = absurd (fresh refl)
put-by Greater p k v e es more fresh rest = omega (arith, rest)

put-tally : (p : Pair → Bool) (k : EntryKey) (v : PublisherRecord) (es : List Pair) → AllByRecursion (IsFresh k) es → tally p (insert_entry entry_cmp es k v) ≡ counted (p (k, v)) + tally p es
put-tally p k v [] fresh = refl
put-tally p k v (e ∷ es) fresh = put-by (entry_cmp k e.0) p k v e es (insert_entry entry_cmp es k v) fresh.0 (put-tally p k v es fresh.1)

abbrev AreApart : List Grant → Type 0
AreApart [] = Unit {0}
AreApart (g ∷ gs) = AllByRecursion (λ (h : Grant). entry_cmp (grant_key h) (grant_key g) ≡ Equal → ⊥) gs × AreApart gs

abbrev AllFresh : List Pair → Grant → Type 0
AllFresh es g = AllByRecursion (IsFresh (grant_key g)) es

granted-tally : (p : Pair → Bool) (gs : List Grant) (es : List Pair) → AllByRecursion (AllFresh es) gs → AreApart gs → tally p (granted es gs) ≡ tally p es + tally (λ (g : Grant). p (pair_of g)) gs
granted-tally p [] es fresh apart = omega arith
granted-tally p (g ∷ gs) es fresh apart =
    let put = put-tally p (grant_key g) (Granted g) es fresh.0 in
    let more : List Pair = insert_entry entry_cmp es (grant_key g) (Granted g) in
    let still : AllByRecursion (AllFresh more) gs = all-both (AllFresh es) (λ (h : Grant). entry_cmp (grant_key h) (grant_key g) ≡ Equal → ⊥) (AllFresh more)
    (λ h old new. all-put (IsFresh (grant_key h)) entry_cmp (grant_key g) (Granted g) (λ q tied. subst (λ (k : EntryKey). entry_cmp (grant_key h) k ≡ Equal → ⊥) (entry_exact (grant_key g) q tied) new) new es old) gs fresh.1 apart.0 in
    let rest = granted-tally p gs more still apart.1 in
    omega (arith, put, rest)

less-equal : (let o : Ordering = Less in o) ≡ Equal → ⊥
less-equal e = cc

abbrev is_at_key : GrantKey → Grant → Bool
is_at_key k g = (k.article == g.article) && (k.site.0 == g.site.0) && (k.number == g.number)

keys-apart : (gs : List Grant) → ((article site number : ℕ) → tally (is_numbered article site number) gs ≤ 1) → AllByRecursion HasGrantKey gs → AreApart gs
keys-apart [] few keys = tt
keys-apart (g ∷ gs) few keys =
    let test : Grant → Bool = is_numbered g.article g.site.0 g.number in
    let self : test g ≡ true = grind (arith, nat_tests) in
    let once : counted (test g) ≡ 1 = ap counted self in
    let all = few g.article g.site.0 g.number in
    let none : tally test gs ≡ 0 = omega (arith, once, all) in (
      all-both (λ (h : Grant). test h ≡ false) HasGrantKey (λ (h : Grant). entry_cmp (grant_key h) (grant_key g) ≡ Equal → ⊥)
          (λ h other key tied. less-equal (keys_apart h g key keys.0 (λ same. differs g h other same) tied)) gs (none-pass test gs none) keys.1,
      keys-apart gs (λ article site number. (let all = few article site number in omega (arith, all))) keys.1,
    )
  where
    differs : (g h : Grant) → is_numbered g.article g.site.0 g.number h ≡ false → grant_key_in h ≡ grant_key_in g → ⊥
    differs g h other same =
        let self : is_at_key (grant_key_in g) g ≡ true = grind (arith, nat_tests) in
        let here : is_at_key (grant_key_in h) g ≡ true = subst (λ (k : GrantKey). is_at_key k g ≡ true) (sym same) self in
        grind (arith, other, here)

numbered-few : (gs : List Grant) → AreNumbered gs → (article site number : ℕ) → tally (is_numbered article site number) gs ≤ 1
numbered-few gs numbered article site number =
    let is = numbered article site number in
    let same = count-tally (is_numbered article site number) gs in
    few-by (nat_le 1 number && nat_le number (granted_to article site gs)) (count_by (is_numbered article site number) gs) (tally (is_numbered article site number) gs) is same
  where
    few-by : (b : Bool) (n m : ℕ) → n ≡ (if b then 1 else 0) → n ≡ m → m ≤ 1
    few-by true n m is same = omega (arith, is, same)
    few-by false n m is same = omega (arith, is, same)

held-fresh : (g : Grant) (ps : List (ℕ × Holder)) → AllFresh (map held_pair ps) g
held-fresh g [] = tt
held-fresh g (p ∷ ps) = ((λ tied. less-equal (grant_apart g p.0 tied)), held-fresh g ps)

held-none : (p : Pair → Bool) (ps : List (ℕ × Holder)) → ((entry : ℕ × Holder) → p (held_pair entry) ≡ false) → tally p (map held_pair ps) ≡ 0
held-none p [] none = refl
held-none p (e ∷ ps) none = (let here : counted (p (held_pair e)) ≡ 0 = ap counted (none e) in let rest = held-none p ps none in omega (arith, here, rest))

-- a test of grants, of records
abbrev pub by_grant : (Grant → Bool) → PublisherRecord → Bool
by_grant q (Granted g) = q g
by_grant q r = false

all-fresh : (ps : List (ℕ × Holder)) (gs : List Grant) → AllByRecursion (AllFresh (map held_pair ps)) gs
all-fresh ps [] = tt
all-fresh ps (g ∷ gs) = (held-fresh g ps, all-fresh ps gs)

pub held-tallied : (p : PublisherRecord → Bool) (ps : List (ℕ × Holder)) (gs : List Grant) → ((g : Grant) → p (Granted g) ≡ false) → AreNumbered gs → AllByRecursion HasGrantKey gs
    → tally (λ (e : Pair). p e.1) (granted (map held_pair ps) gs) ≡ tally (λ (e : Pair). p e.1) (map held_pair ps)
held-tallied p ps gs never numbered keys =
    let all = granted-tally (λ (e : Pair). p e.1) gs (map held_pair ps) (all-fresh ps gs) (keys-apart gs (numbered-few gs numbered) keys) in
    let none = tally-none (λ (g : Grant). p (Granted g)) gs (all-of (λ (g : Grant). p (Granted g) ≡ false) never gs) in
    omega (arith, all, none)

pub grants-tallied : (q : Grant → Bool) (ps : List (ℕ × Holder)) (gs : List Grant) → AreNumbered gs → AllByRecursion HasGrantKey gs → tally (λ (e : Pair). by_grant q e.1) (granted (map held_pair ps) gs) ≡ tally q gs
grants-tallied q ps gs numbered keys =
    let all = granted-tally (λ (e : Pair). by_grant q e.1) gs (map held_pair ps) (all-fresh ps gs) (keys-apart gs (numbered-few gs numbered) keys) in
    let none = held-none (λ (e : Pair). by_grant q e.1) ps (λ entry. refl) in
    omega (arith, all, none)

-- In the order of their keys.

held-above : (a : ℕ) (ps : List (ℕ × Holder)) → a < 2 ^ 8 → AllByRecursion (λ (p : ℕ × Holder). p.0 < 2 ^ 8) ps → AreAbove nat_cmp a (keys_of ps) → AreAbove entry_cmp (held_key a) (keys_of (map held_pair ps))
held-above a [] low lows above = tt
held-above a (p ∷ ps) low lows above = (held_keys_order.same a p.0 low lows.0 ∙ above.0, held-above a ps low lows.1 above.1)

held-sorted : (ps : List (ℕ × Holder)) → AllByRecursion (λ (p : ℕ × Holder). p.0 < 2 ^ 8) ps → IsStrictlySortedBy nat_cmp (keys_of ps) → IsStrictlySortedBy entry_cmp (keys_of (map held_pair ps))
unfolding IsStrictlySortedBy
held-sorted [] lows sorted = tt
held-sorted (p ∷ ps) lows sorted = (held-above p.0 ps lows.0 lows.1 sorted.0, held-sorted ps lows.1 sorted.1)

pub pairs-sorted : (ps : List (ℕ × Holder)) (gs : List Grant) → AllByRecursion (λ (p : ℕ × Holder). p.0 < 2 ^ 8) ps → IsStrictlySortedBy nat_cmp (keys_of ps) → IsStrictlySortedBy entry_cmp (keys_of (granted (map held_pair ps) gs))
pairs-sorted ps gs lows sorted = sorted_after_all entry_cmp entry_total (map held_pair ps) (puts_of grant_key Granted gs) (held-sorted ps lows sorted)

abbrev pub key_in : PublisherRecord → EntryKey
key_in r = (entry_of r).0

abbrev IsPaired : Pair → Type 0
IsPaired e = key_in e.1 ≡ e.0

held-paired : (ps : List (ℕ × Holder)) → AllByRecursion IsPaired (map held_pair ps)
held-paired [] = tt
held-paired (p ∷ ps) = (refl, held-paired ps)

grants-paired : (gs : List Grant) → AllByRecursion (λ (g : Grant). IsPaired (pair_of g)) gs
grants-paired [] = tt
grants-paired (g ∷ gs) = (refl, grants-paired gs)

keys-of : (es : List Pair) → AllByRecursion IsPaired es → map key_in (map (λ (e : Pair). e.1) es) ≡ keys_of es
keys-of [] all = refl
keys-of (e ∷ es) all = ap (λ (k : EntryKey). k ∷ map key_in (map (λ (x : Pair). x.1) es)) all.0 ∙ ap (λ (ks : List EntryKey). e.0 ∷ ks) (keys-of es all.1)

pub records-sorted : (ps : List (ℕ × Holder)) (gs : List Grant) → AllByRecursion (λ (p : ℕ × Holder). p.0 < 2 ^ 8) ps → IsStrictlySortedBy nat_cmp (keys_of ps)
    → IsStrictlySortedBy entry_cmp (map key_in (map (λ (e : Pair). e.1) (granted (map held_pair ps) gs)))
records-sorted ps gs lows sorted =
    subst (λ (ks : List EntryKey). IsStrictlySortedBy entry_cmp ks) (sym (keys-of (granted (map held_pair ps) gs) (all-granted IsPaired gs (map held_pair ps) (grants-paired gs) (held-paired ps)))) (pairs-sorted ps gs lows sorted)

unmapped : (k : EntryKey) (rs : List PublisherRecord) → AreAbove entry_cmp k (map key_in rs) → AllByRecursion (λ (r : PublisherRecord). entry_cmp k (key_in r) ≡ Less) rs
unmapped k [] above = tt
unmapped k (r ∷ rs) above = (above.0, unmapped k rs above.1)

-- those in front of a record have lesser keys, those behind it greater ones
pub record Stands (f : List PublisherRecord) (x : PublisherRecord) (rest : List PublisherRecord) : Type 0 where
  pub front : AllByRecursion (λ (r : PublisherRecord). entry_cmp (key_in r) (key_in x) ≡ Less) f
  pub behind : AllByRecursion (λ (r : PublisherRecord). entry_cmp (key_in x) (key_in r) ≡ Less) rest

pub stands : (f : List PublisherRecord) (x : PublisherRecord) (rest : List PublisherRecord) → IsStrictlySortedBy entry_cmp (map key_in (f ++ x ∷ rest)) → Stands f x rest
unfolding IsStrictlySortedBy
stands [] x rest sorted = record { front = tt; behind = unmapped (key_in x) rest sorted.0 }
stands (r ∷ f) x rest sorted =
    let more = stands f x rest sorted.1 in
    let here = second-all (λ (y : PublisherRecord). entry_cmp (key_in r) (key_in y) ≡ Less) f (x ∷ rest) (unmapped (key_in r) (f ++ x ∷ rest) sorted.0) in
    record { front = (here.0, more.front); behind = more.behind }
