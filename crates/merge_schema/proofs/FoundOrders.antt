-- Where some order has parents first, the one by numbers of ancestors does.
use Rattle.std.proofs.Common.{◌≡◌, ◌≢◌, ◌⊎◌, inl, inr, ◌<◌, ◌≤◌, ◌+◌, ◌-◌, ℕ, zero, suc, Bool, true, false, cond, ◌==◌, List, [], ◌∷◌, length, get_or, refl, sym, ap, subst, ◌∙◌, arith}
use Rattle.std.specs.List.{Contains, remove}
use Rattle.std.proofs.lemmas.Bool.Decides.{nat_tests}
use Rattle.std.proofs.lemmas.List.{get_or_default}
use Rattle.std.proofs.lemmas.List.Edits.{length-remove, get_or-remove_below, get_or-remove_above}
use Rattle.std.proofs.lemmas.List.Elements.{Contains-append_right}
use Rattle.merge_schema.specs.declared.publication.JoinFilter.{JoinFilter}
use Rattle.merge_schema.specs.declared.publication.Publication.{Publication}
use Rattle.merge_schema.specs.AncestorLaws.{LeadsWithin}
use Rattle.merge_schema.specs.Ancestors.{is_ancestor}
use Rattle.merge_schema.specs.EvaluationOrder.{rank_in, IsEvaluationOrder}
use Rattle.merge_schema.specs.ParentsFirst.{evaluation_order}
use Rattle.merge_schema.specs.Partition.{joins_at}
use Rattle.merge_schema.proofs.AncestorPaths.{ancestor_is}
use Rattle.merge_schema.proofs.Orders.{evaluation_order_is}

-- what stands at another place stands in the list without this one
pub kept_apart : (xs : List ℕ) (j q k : ℕ) → j < length xs → q < length xs → get_or xs q k ≡ k → (q < j) ⊎ (j < q) → Contains (remove xs j) k
kept_apart xs j q k there less is (inl before) =
    let shorter : length (remove xs j) + 1 ≡ length xs = length-remove xs j there in
    (q, omega (arith, shorter), get_or-remove_below xs j k q before there ∙ is)
kept_apart xs j q k there less is (inr behind) =
    let shorter : length (remove xs j) + 1 ≡ length xs = length-remove xs j there in
    let back : q - 1 + 1 ≡ q = omega arith in
    (q - 1, omega (arith, shorter), get_or-remove_above xs j k (q - 1) (omega arith) there ∙ ap (λ n. get_or xs n k) back ∙ is)

apart_places : (a b : ℕ) → a ≢ b → (a < b) ⊎ (b < a)
apart_places a b apart = grind arith

-- a number stays in the list without another one
kept_without : (xs : List ℕ) (x k : ℕ) → (there : Contains xs x) → Contains xs k → x ≢ k → Contains (remove xs there.0) k
kept_without xs x k there other unlike =
    let apart : other.0 ≢ there.0 = λ same.
    let both : k ≡ x = sym other.2 ∙ ap (λ i. get_or xs i k) same ∙ get_or_default xs there.0 k x there.1 ∙ there.2 in
    unlike (sym both) in
    kept_apart xs there.0 other.0 k there.1 other.1 other.2 (apart_places other.0 there.0 apart)

-- a list that has all numbers below one is as long
pub as_long : (n : ℕ) (xs : List ℕ) → ((k : ℕ) → k < n → Contains xs k) → n ≤ length xs
as_long zero xs all = omega arith
as_long (suc n) xs all =
    let at = all n (omega arith) in
    let shorter : length (remove xs at.0) + 1 ≡ length xs = length-remove xs at.0 at.1 in
    let rest : n ≤ length (remove xs at.0) = as_long n (remove xs at.0) (λ k less. kept_without xs n k at (all k (omega arith)) (λ same. omega arith)) in
    omega (arith, shorter, rest)

below_or_not : (x n : ℕ) → (x < n) ⊎ (n ≤ x)
below_or_not x n = grind arith

-- and has no others, where it is no longer
only_below : (n : ℕ) (xs : List ℕ) → ((k : ℕ) → k < n → Contains xs k) → length xs ≡ n → (x : ℕ) → Contains xs x → x < n
only_below n xs all long x there = elim (below_or_not x n) [
  | inl below ↦ below
  | inr above ↦
      let shorter : length (remove xs there.0) + 1 ≡ length xs = length-remove xs there.0 there.1 in
      let rest : n ≤ length (remove xs there.0) = as_long n (remove xs there.0) (λ k less. kept_without xs x k there (all k less) (λ same. omega arith)) in
      absurd (omega (arith, shorter, rest, long))
]

rank_most : (order : List ℕ) (place : ℕ) → rank_in order place ≤ length order
rank_most [] place = omega arith
rank_most (first ∷ order) place = by (first == place) (rank_most order place)
  where
    by : (b : Bool) → rank_in order place ≤ length order → cond b 0 (suc (rank_in order place)) ≤ suc (length order)
    by true most = omega arith
    by false most = omega arith

-- what has a rank is there
there_by_rank : (order : List ℕ) (place : ℕ) → rank_in order place < length order → Contains order place
there_by_rank [] place less = absurd (omega arith)
there_by_rank (first ∷ order) place less = by (first == place) refl less (there_by_rank order place)
  where
    by : (b : Bool) → (first == place) ≡ b → cond b 0 (suc (rank_in order place)) < suc (length order) → (rank_in order place < length order → Contains order place) → Contains (first ∷ order) place
    by true same below others = (0, omega arith, grind (arith, nat_tests))
    by false same below others = Contains-append_right (first ∷ []) order place (others (omega arith))

module _ (publication : Publication) (order : List ℕ) (is : IsEvaluationOrder publication order) where
  chain_rank : (ancestor n place : ℕ) → LeadsWithin publication.articles ancestor n place → rank_in order ancestor < rank_in order place
  chain_rank ancestor zero place chain = absurd chain
  chain_rank ancestor (suc n) place (join, there, way) =
      let first : rank_in order join.parent < rank_in order place = is.parents_first place join there in
      elim way [
        | inl same ↦ subst (λ p. rank_in order p < rank_in order place) same first
        | inr chain ↦ let rest = chain_rank ancestor n join.parent chain in omega arith
      ]

  none_own : (place : ℕ) → place < length publication.articles → is_ancestor publication.articles place place ≡ false
  none_own place less = by (is_ancestor publication.articles place place) refl
    where
      by : (b : Bool) → is_ancestor publication.articles place place ≡ b → is_ancestor publication.articles place place ≡ false
      by true found = let chain = ancestor_is publication.articles place place found in let lower = chain_rank place chain.0 place chain.1 in absurd (omega arith)
      by false found = found

  parent_inside : (place : ℕ) (join : JoinFilter) → Contains (joins_at publication place) join → join.parent < length publication.articles
  parent_inside place join there =
      let lower = is.parents_first place join there in
      let most = rank_most order place in
      only_below (length publication.articles) order is.all is.once join.parent (there_by_rank order join.parent (omega arith))

  pub order_is_found : IsEvaluationOrder publication (evaluation_order publication)
  order_is_found = evaluation_order_is publication none_own parent_inside
