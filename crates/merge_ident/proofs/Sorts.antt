-- Disjoint grants that are sorted by article and begin are in order.
use Rattle.std.proofs.Common.{◌≡◌, ℕ, ◌+◌, ◌<◌, ◌≤◌, Bool, true, false, cond, List, [], ◌∷◌, ℤ, ◌<ℤ◌, ◌≤ℤ◌, int_le, length, get_or, All, suc, refl, sym, arith}
use Rattle.std.specs.Ordering.{nat_cmp, int_cmp, ordering_then, is_lt}
use Rattle.std.specs.declared.cmp.Ordering.{Ordering}
use Rattle.std.specs.List.{Contains}
use Rattle.std.specs.List.Sorted.{IsPermutation, IsSortedByKey}
use Rattle.std.specs.Cmp.{IsTotalOrder}
use Rattle.std.proofs.lemmas.Cmp.{nat_cmp_total, int_cmp_total, on_total, then_total}
use Rattle.std.proofs.lemmas.List.{get_or_default}
use Rattle.std.proofs.lemmas.Int.{ints}
use Rattle.std.proofs.lemmas.Bool.Decides.{nat_tests}
use Rattle.std.proofs.lemmas.List.Sums.{get_or-le-sum_by}
use Rattle.std.proofs.lemmas.List.Sorted.{All-permutation, Contains-permutation, IsPermutation-sym, sum_by-IsPermutation, sorted_far, ranks_by}
use Rattle.std.proofs.lemmas.List.Elements.{recursion_from_All, All-tail}
use Rattle.merge_ident.specs.declared.grants.Grant.{Grant}
use Rattle.merge_ident.specs.Grants.{is_of, is_numbered, gives, IsGranted, AreDisjoint, AreGrants, AreRising, Precedes, AreInOrder}
use Rattle.merge_ident.proofs.Added.{count_by-cons}

-- a grant stands before another one by article and begin
abbrev pub is_before : Grant → Grant → Bool
is_before x y = is_lt (ordering_then (nat_cmp x.article y.article) (int_cmp x.range.begin y.range.begin))

-- no later one stands before an earlier one
abbrev pub AreSorted : List Grant → Type 0
AreSorted xs = (i j : ℕ) (d : Grant) → i ≤ j → j < length xs → is_before (get_or xs j d) (get_or xs i d) ≡ false

article_rises : (x y : Grant) → is_before y x ≡ false → x.article ≤ y.article
article_rises x y sorted = grind (arith, nat_tests)

begin_rises : (x y : Grant) → is_before y x ≡ false → x.article ≡ y.article → x.range.begin ≤ℤ y.range.begin
begin_rises x y sorted same = grind (arith, ints, nat_tests)

-- two grants that give the value of the second one's begin count twice
gives_test : (article : ℕ) (value : ℤ) (g : Grant) → g.article ≡ article → g.range.begin ≤ℤ value → value ≤ℤ g.range.end → gives article value g ≡ true
gives_test article value g same from to = grind (arith, ints, nat_tests)

precedes-by_test : (b : Bool) (x y : Grant) → int_le y.range.begin x.range.end ≡ b → is_before y x ≡ false → (x.article ≡ y.article → y.range.begin ≤ℤ x.range.end → ⊥)
    → (x.range.begin ≤ℤ x.range.end) → (x.article ≡ y.article → x.site.0 ≡ y.site.0 → x.range.begin <ℤ y.range.begin → x.number < y.number) → Precedes x y
precedes-by_test true x y meets sorted apart some rising = record {
  by_article = article_rises x y sorted;
  behind = λ same. absurd (apart same (grind (arith, ints)));
  numbered = λ same site. absurd (apart same (grind (arith, ints)));
}
precedes-by_test false x y meets sorted apart some rising =
    let behind : x.range.end <ℤ y.range.begin = grind (arith, ints) in
    record { by_article = article_rises x y sorted; behind = λ same. behind; numbered = λ same site. rising same site (omega (arith, ints, some, behind)) }

twice : (b c : Bool) (n m : ℕ) → b ≡ true → c ≡ true → n ≡ cond b 1 0 + m → cond c 1 0 ≤ m → 2 ≤ n
twice true true n m here there split one = omega arith
twice true false n m here there split one = cc
twice false c n m here there split one = cc

precedes_sorted : (x : Grant) (xs : List Grant) (k : ℕ) (d : Grant) → k < length xs → AreDisjoint (x ∷ xs) → All IsGranted (x ∷ xs) → AreRising (x ∷ xs) → is_before (get_or xs k d) x ≡ false → Precedes x (get_or xs k d)
precedes_sorted x xs k d in_xs disjoint ranges rising sorted =
    let y = get_or xs k d in
    precedes-by_test (int_le y.range.begin x.range.end) x y refl sorted
    (λ same meets.
    let here : gives x.article y.range.begin x ≡ true = gives_test x.article y.range.begin x refl (begin_rises x y sorted same) meets in
    let there : gives x.article y.range.begin y ≡ true = gives_test x.article y.range.begin y (sym same) (grind (arith, ints)) (ranges (suc k) d (omega arith)).some in
    let both = twice (gives x.article y.range.begin x) (gives x.article y.range.begin y) _ _ here there (count_by-cons (gives x.article y.range.begin) x xs) (get_or-le-sum_by (λ z. cond (gives x.article y.range.begin z) 1 0) xs k d in_xs) in
    omega (arith, disjoint x.article y.range.begin, both))
    (ranges 0 x (omega arith)).some
    (λ same site below. rising x y (0, omega arith, refl) (suc k, omega (arith, in_xs), get_or_default xs k y d in_xs) same site below)

contains_later : (x : Grant) (xs : List Grant) (y : Grant) → Contains xs y → Contains (x ∷ xs) y
contains_later x xs y (k, within, at) = (suc k, omega (arith, within), at)

pub in_order-sorted : (xs : List Grant) → AreDisjoint xs → All IsGranted xs → AreRising xs → AreSorted xs → AreInOrder xs
in_order-sorted [] disjoint ranges rising sorted = tt
in_order-sorted (x ∷ xs) disjoint ranges rising sorted = (
  recursion_from_All (Precedes x) xs (λ k d in_xs. precedes_sorted x xs k d in_xs disjoint ranges rising (sorted 0 (suc k) d (omega arith) (omega arith))),
  in_order-sorted xs (λ article value. omega (arith, disjoint article value, count_by-cons (gives article value) x xs)) (All-tail IsGranted x xs ranges)
      (λ a b here there. rising a b (contains_later x xs a here) (contains_later x xs b there))
      (λ i j d le in_xs. sorted (suc i) (suc j) d (omega arith) (omega arith)),
)

-- the order of the grants is of no account to what holds of all grants of a book
pub grants-permutation : (xs ys : List Grant) → IsPermutation xs ys → AreGrants xs → AreGrants ys
grants-permutation xs ys same grants = record {
  ranges = All-permutation IsGranted xs ys same grants.ranges;
  disjoint = λ article value. rw (sum_by-IsPermutation (λ z. cond (gives article value z) 1 0) xs ys same) (grants.disjoint article value);
  rising = λ x y here there. grants.rising x y (Contains-permutation ys xs x (IsPermutation-sym xs ys same) here) (Contains-permutation ys xs y (IsPermutation-sym xs ys same) there);
  numbered = λ article site number. rw (sum_by-IsPermutation (λ z. cond (is_numbered article site number z) 1 0) xs ys same, sum_by-IsPermutation (λ z. cond (is_of article site z) 1 0) xs ys same) (grants.numbered article site number);
}

-- by article and begin
abbrev pub key_of : Grant → ℕ × ℤ
key_of g = (g.article, g.range.begin)

abbrev pub key_cmp : ℕ × ℤ → ℕ × ℤ → Ordering
key_cmp a b = ordering_then (nat_cmp a.0 b.0) (int_cmp a.1 b.1)

key_cmp_total : IsTotalOrder key_cmp
key_cmp_total = then_total (on_total (λ (p : ℕ × ℤ). p.0) nat_cmp_total) (on_total (λ (p : ℕ × ℤ). p.1) int_cmp_total)

-- what a sort by that key leaves
pub sorted-by_key : (xs : List Grant) → IsSortedByKey key_of key_cmp xs → AreSorted xs
sorted-by_key xs sorted i j d le in_xs = sorted_far is_before (ranks_by key_cmp_total key_of) xs sorted i j d le in_xs
