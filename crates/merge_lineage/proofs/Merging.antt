-- A join begins with the first dot of both, and goes on with the join of what is left behind it.
use Rattle.std.proofs.Common.{◌≡◌, ℕ, ◌+◌, ◌≤◌, List, [], ◌∷◌, ◌<◌, length, max, Some, None, refl, arith}
use Rattle.std.proofs.lemmas.Bool.Decides.{nat_tests}
use Rattle.merge_types.specs.declared.Dot.{Dot}
use Rattle.merge_lineage.specs.Lineage.{IsAscending, with_dot, joined}
use Rattle.merge_lineage.specs.Merging.{lesser, first_of, behind}
use Rattle.merge_lineage.proofs.Rising.{RisesFrom, rises_with_dot, rises_from_ascending, ascending_from_rises}

pub rises_lower : (low high : ℕ) (l : List Dot) → low ≤ high → RisesFrom high l → RisesFrom low l
rises_lower low high [] le rises = tt
rises_lower low high (x ∷ xs) le rises = (omega (arith, rises.0), rises.1)

rises_joined : (low : ℕ) (a b : List Dot) → RisesFrom low a → RisesFrom low b → RisesFrom low (joined a b)
rises_joined low [] b rises_a rises_b = rises_b
rises_joined low (x ∷ xs) b rises_a rises_b =
    rises_with_dot low (joined xs b) (rises_joined low xs b (rises_lower low (x.site.0 + 1) xs (omega (arith, rises_a.0)) rises_a.1) rises_b) x rises_a.0

-- a dot below all stands first
with_dot_first : (d : Dot) (l : List Dot) → RisesFrom (d.site.0 + 1) l → with_dot d l ≡ d ∷ l
with_dot_first d [] rises = refl
with_dot_first d (x ∷ xs) rises = grind (arith, nat_tests, rises.0)

joined_ours : (x : Dot) (xs b : List Dot) → RisesFrom (x.site.0 + 1) xs → RisesFrom (x.site.0 + 1) b → joined (x ∷ xs) b ≡ x ∷ joined xs b
joined_ours x xs b rises_a rises_b = with_dot_first x (joined xs b) (rises_joined (x.site.0 + 1) xs b rises_a rises_b)

joined_theirs : (a : List Dot) (y : Dot) (ys : List Dot) → RisesFrom (y.site.0 + 1) a → joined a (y ∷ ys) ≡ y ∷ joined a ys
joined_theirs [] y ys rises = refl
joined_theirs (x ∷ xs) y ys rises =
    let rest = joined_theirs xs y ys (rises_lower (y.site.0 + 1) (x.site.0 + 1) xs (omega (arith, rises.0)) rises.1) in
    rw rest (grind (arith, nat_tests, rises.0))

module _ (x : Dot) (xs : List Dot) (y : Dot) (ys : List Dot) (ours : RisesFrom (x.site.0 + 1) xs) (theirs : RisesFrom (y.site.0 + 1) ys) where
  step_less : x.site.0 < y.site.0 → joined (x ∷ xs) (y ∷ ys) ≡ x ∷ joined xs (y ∷ ys)
  step_less less = joined_ours x xs (y ∷ ys) ours (omega arith, theirs)

  step_more : y.site.0 < x.site.0 → joined (x ∷ xs) (y ∷ ys) ≡ y ∷ joined (x ∷ xs) ys
  step_more more = joined_theirs (x ∷ xs) y ys (omega arith, ours)

  step_same : x.site.0 ≡ y.site.0 → joined (x ∷ xs) (y ∷ ys) ≡ record { site = y.site; number = max y.number x.number } ∷ joined xs ys
  step_same same = rw (joined_theirs xs y ys (rises_lower (y.site.0 + 1) (x.site.0 + 1) xs (omega arith) ours)) (grind (arith, nat_tests))

  step_both : joined (x ∷ xs) (y ∷ ys) ≡ lesser x y ∷ joined (behind (lesser x y).site.0 (x ∷ xs)) (behind (lesser x y).site.0 (y ∷ ys))
  step_both = grind (arith, nat_tests, step_less, step_more, step_same)

pub joined_step : (a b : List Dot) (d : Dot) → IsAscending a → IsAscending b → Some d ≡ first_of a b → joined a b ≡ d ∷ joined (behind d.site.0 a) (behind d.site.0 b)
joined_step [] [] d ours theirs is = absurd cc
joined_step (x ∷ xs) [] d ours theirs is =
    let same : d ≡ x = cc in
    rw same (grind (arith, nat_tests, joined_ours x xs [] (rises_from_ascending (x ∷ xs) ours).1 tt))
joined_step [] (y ∷ ys) d ours theirs is =
    let same : d ≡ y = cc in
    rw same (grind (arith, nat_tests))
joined_step (x ∷ xs) (y ∷ ys) d ours theirs is =
    let same : d ≡ lesser x y = cc in
    rw same (step_both x xs y ys (rises_from_ascending (x ∷ xs) ours).1 (rises_from_ascending (y ∷ ys) theirs).1)

rises_behind : (low site : ℕ) (l : List Dot) → RisesFrom low l → RisesFrom low (behind site l)
rises_behind low site [] rises = tt
rises_behind low site (x ∷ xs) rises = grind (arith, nat_tests, rises, rises_lower low (x.site.0 + 1) xs (omega (arith, rises.0)) rises.1)

pub ascending-behind : (site : ℕ) (l : List Dot) → IsAscending l → IsAscending (behind site l)
ascending-behind site l ascending = ascending_from_rises 0 (behind site l) (rises_behind 0 site l (rises_from_ascending l ascending))

length_behind : (site : ℕ) (l : List Dot) → length (behind site l) ≤ length l
length_behind site [] = omega arith
length_behind site (x ∷ xs) = grind (arith, nat_tests)

length_head : (x : Dot) (xs : List Dot) → length (behind x.site.0 (x ∷ xs)) ≡ length xs
length_head x xs = grind (arith, nat_tests)

-- fewer dots are left behind the first one
pub fewer_left : (a b : List Dot) (d : Dot) → Some d ≡ first_of a b → length (behind d.site.0 a) + length (behind d.site.0 b) < length a + length b
fewer_left [] [] d is = absurd cc
fewer_left (x ∷ xs) [] d is = grind (arith, nat_tests)
fewer_left [] (y ∷ ys) d is = grind (arith, nat_tests)
fewer_left (x ∷ xs) (y ∷ ys) d is = grind (arith, nat_tests, length_behind d.site.0 (x ∷ xs), length_behind d.site.0 (y ∷ ys))

-- where there is no first dot, none is left
pub none_left : (a b : List Dot) → None ≡ first_of a b → joined a b ≡ []
none_left [] [] is = refl
none_left (x ∷ xs) [] is = absurd cc
none_left [] (y ∷ ys) is = absurd cc
none_left (x ∷ xs) (y ∷ ys) is = absurd cc
