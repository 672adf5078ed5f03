-- Covering, by the numbers of the sites.
use Rattle.std.proofs.Common.{◌≡◌, ℕ, ◌<◌, true, List, [], ◌∷◌, Some, None, Option, max, IsTrue, ◌↔◌, refl, sym, ap, ◌∙◌, arith}
use Rattle.std.specs.Prelude.{nat_le, ◌||◌, ◌&&◌, ◌==◌, unwrap_or}
use Rattle.std.specs.List.{list_all}
use Rattle.std.proofs.lemmas.List.Elements.{All-head, All-tail}
use Rattle.std.proofs.lemmas.Bool.Decides.{nat_tests}
use Rattle.merge_types.specs.declared.Dot.{Dot}
use Rattle.merge_lineage.specs.Lineage.{IsAscending, number_at, number_of, knows, Covers, greater, joined}
use Rattle.merge_lineage.specs.Laws.{HasNumbers, CoversByKnowing, CoversBothWays, JoinCoversBoth, JoinIsLeast, JoinKnows, JoinIsAssociative, JoinIsCommutative, JoinIsIdempotent, AdvanceKnows}
use Rattle.merge_lineage.proofs.Numbers.{number-with_dot}
use Rattle.merge_lineage.proofs.Rising.{ascending_with_dot}
use Rattle.merge_lineage.proofs.Joined.{ascending_tail, tail_lacks, numbers_determine, ascending-joined, joins-joined, greater-comm, greater-assoc, greater-same}

-- all known, so each number is at least
covers_from_all : (a b : List Dot) → list_all (knows a) b ≡ true → Covers a b
covers_from_all a [] all site = omega arith
covers_from_all a (x ∷ xs) all site = grind (arith, nat_tests, covers_from_all a xs)

all_from_covers : (a b : List Dot) → IsAscending b → Covers a b → list_all (knows a) b ≡ true
all_from_covers a [] ascending covers = refl
all_from_covers a (x ∷ xs) ascending covers =
    let tail : Covers a xs = λ site. grind (arith, nat_tests, covers site, tail_lacks x xs ascending) in
    let rest = all_from_covers a xs (ascending_tail x xs ascending) tail in
    grind (arith, nat_tests, covers x.site.0)

-- the dots alone are enough, since their sites ascend
pub covers_by_test : (a b : List Dot) → IsAscending b → IsTrue (list_all (knows a) b) ↔ Covers a b
covers_by_test a b ascending = (λ all. covers_from_all a b all, all_from_covers a b ascending)

-- the number of a site, as the change that has it
change_of : List Dot → ℕ → Dot
change_of l site = record { site = record { 0 = site }; number = number_of l site }

pub covers_by_knowing : CoversByKnowing
unfolding change_of
covers_by_knowing a b = (
  λ covers dot known. grind (arith, nat_tests, covers dot.site.0),
  λ all site. let own : IsTrue (knows b (change_of b site)) = grind (arith, nat_tests) in grind (arith, nat_tests, all (change_of b site) own),
)

-- a number that a site has is not 0
number_above : (l : List Dot) → HasNumbers l → (site n : ℕ) → number_at l site ≡ Some n → 0 < n
number_above [] positive site n at = absurd (grind arith)
number_above (x ∷ xs) positive site n at = grind (arith, nat_tests, All-head (λ (dot : Dot). 0 < dot.number) x xs positive, number_above xs (All-tail (λ (dot : Dot). 0 < dot.number) x xs positive) site n)

same_number : (m n : Option ℕ) → ((k : ℕ) → m ≡ Some k → 0 < k) → ((k : ℕ) → n ≡ Some k → 0 < k) → unwrap_or m 0 ≡ unwrap_or n 0 → m ≡ n
same_number None None above_m above_n same = refl
same_number None (Some n) above_m above_n same = absurd (omega (arith, above_n n refl))
same_number (Some m) None above_m above_n same = absurd (omega (arith, above_m m refl))
same_number (Some m) (Some n) above_m above_n same = ap Some same

pub covers_both_ways : CoversBothWays
covers_both_ways a b ascending_a ascending_b positive_a positive_b a_covers b_covers =
    numbers_determine a b ascending_a ascending_b (λ site. same_number (number_at a site) (number_at b site) (number_above a positive_a site) (number_above b positive_b site) (omega (arith, a_covers site, b_covers site)))

-- the greater number is at least both, and knows what one of the two knows
number-greater : (m n : Option ℕ) → unwrap_or (greater m n) 0 ≡ max (unwrap_or m 0) (unwrap_or n 0)
number-greater None None = grind arith
number-greater None (Some n) = grind arith
number-greater (Some m) None = grind arith
number-greater (Some m) (Some n) = refl

known-max : (k m n : ℕ) → nat_le k (max m n) ≡ (nat_le k m || nat_le k n)
known-max k m n = grind (arith, nat_tests)

module _ (a b : List Dot) (ascending_a : IsAscending a) (ascending_b : IsAscending b) where
  number-joined : (site : ℕ) → number_of (joined a b) site ≡ max (number_of a site) (number_of b site)
  number-joined site = ap (λ n. unwrap_or n 0) (joins-joined a b ascending_a ascending_b site) ∙ number-greater (number_at a site) (number_at b site)

pub join_covers_both : JoinCoversBoth
join_covers_both a b ascending_a ascending_b = (λ site. omega (arith, number-joined a b ascending_a ascending_b site), λ site. omega (arith, number-joined a b ascending_a ascending_b site))

pub join_is_least : JoinIsLeast
join_is_least a b upper ascending_a ascending_b covers_a covers_b site = omega (arith, number-joined a b ascending_a ascending_b site, covers_a site, covers_b site)

pub join_knows : JoinKnows
join_knows a b dot ascending_a ascending_b = ap (nat_le dot.number) (number-joined a b ascending_a ascending_b dot.site.0) ∙ known-max dot.number (number_of a dot.site.0) (number_of b dot.site.0)

pub join_is_associative : JoinIsAssociative
join_is_associative a b c ascending_a ascending_b ascending_c =
    let ab = ascending-joined a b ascending_a ascending_b in
    let bc = ascending-joined b c ascending_b ascending_c in
    numbers_determine _ _ (ascending-joined (joined a b) c ab ascending_c) (ascending-joined a (joined b c) ascending_a bc) (λ site.
    joins-joined (joined a b) c ab ascending_c site
    ∙ ap (λ n. greater n (number_at c site)) (joins-joined a b ascending_a ascending_b site)
    ∙ greater-assoc (number_at a site) (number_at b site) (number_at c site)
    ∙ ap (greater (number_at a site)) (sym (joins-joined b c ascending_b ascending_c site))
    ∙ sym (joins-joined a (joined b c) ascending_a bc site))

pub join_is_commutative : JoinIsCommutative
join_is_commutative a b ascending_a ascending_b =
    numbers_determine _ _ (ascending-joined a b ascending_a ascending_b) (ascending-joined b a ascending_b ascending_a) (λ site.
    joins-joined a b ascending_a ascending_b site ∙ greater-comm (number_at a site) (number_at b site) ∙ sym (joins-joined b a ascending_b ascending_a site))

pub join_is_idempotent : JoinIsIdempotent
join_is_idempotent a ascending =
    numbers_determine _ _ (ascending-joined a a ascending ascending) ascending (λ site. joins-joined a a ascending ascending site ∙ greater-same (number_at a site))

-- one dot more
known-one : (k n : ℕ) (d : Dot) → nat_le k (number_of (d ∷ []) n) ≡ ((nat_le k 0) || (n == d.site.0 && nat_le k d.number))
known-one k n d = grind (arith, nat_tests)

pub advance_knows : AdvanceKnows
advance_knows l dot asked ascending = (
  ascending_with_dot l ascending dot,
  ap (λ n. nat_le asked.number (unwrap_or n 0)) (number-with_dot l ascending dot asked.site.0)
      ∙ ap (nat_le asked.number) (number-greater (number_at l asked.site.0) (number_at (dot ∷ []) asked.site.0))
      ∙ known-max asked.number (number_of l asked.site.0) (number_of (dot ∷ []) asked.site.0)
      ∙ ap (λ known. nat_le asked.number (number_of l asked.site.0) || known) (known-one asked.number asked.site.0 dot)
      ∙ grind (arith, nat_tests),
)
