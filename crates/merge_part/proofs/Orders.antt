-- An order in which parents come before their children, as the walk over it needs it.
use Rattle.std.proofs.Common.{◌≡◌, ◌≢◌, ◌⊎◌, inl, inr, ◌<◌, ◌≤◌, ◌+◌, ◌-◌, ℕ, zero, suc, Bool, true, false, cond, List, [], ◌∷◌, length, drop, get_or, refl, sym, ap, ◌∙◌, subst, arith, length-drop}
use Rattle.std.specs.Prelude.{◌==◌}
use Rattle.std.specs.List.{Contains, remove}
use Rattle.std.proofs.lemmas.Bool.Decides.{nat_tests}
use Rattle.std.proofs.lemmas.List.{get_or-drop, get_or_default}
use Rattle.std.proofs.lemmas.List.Edits.{length-remove, get_or-remove_below, get_or-remove_above}
use Rattle.std.proofs.lemmas.List.Folds.{list_any_at}
use Rattle.std.proofs.lemmas.Option.{slice_get_within}
use Rattle.merge_schema.specs.declared.publication.Publication.{Publication}
use Rattle.merge_schema.specs.EvaluationOrder.{rank_in, IsEvaluationOrder}
use Rattle.merge_schema.specs.Partition.{joins_at, joins_of}
use Rattle.merge_schema.proofs.ListMembers.{contains_cases, contains_none}
use Rattle.merge_part.specs.declared.link.Link.{Link}
use Rattle.merge_part.specs.Rule.{IsAt}
use Rattle.merge_part.specs.Rules.{links_of}
use Rattle.merge_part.specs.Settling.{ParentsComeFirst, NoneFollowsItself, LinksAreWithin, is_among}
use Rattle.merge_part.proofs.LinkLists.{Origin, link_from}

two_places : (xs : List ℕ) (j q k : ℕ) → j < length xs → q < length xs → get_or xs q k ≡ k → (q < j) ⊎ (j < q) → Contains (remove xs j) k
two_places xs j q k there less is (inl before) =
    let shorter : length (remove xs j) + 1 ≡ length xs = length-remove xs j there in
    (q, omega (arith, shorter), get_or-remove_below xs j k q before there ∙ is)
two_places xs j q k there less is (inr behind) =
    let shorter : length (remove xs j) + 1 ≡ length xs = length-remove xs j there in
    let back : q - 1 + 1 ≡ q = omega arith in
    (q - 1, omega (arith, shorter), get_or-remove_above xs j k (q - 1) (omega arith) there ∙ ap (λ n. get_or xs n k) back ∙ is)

apart_places : (a b : ℕ) → a ≢ b → (a < b) ⊎ (b < a)
apart_places a b apart = grind arith

-- a list that has all numbers below one is as long
as_long : (n : ℕ) (xs : List ℕ) → ((k : ℕ) → k < n → Contains xs k) → n ≤ length xs
as_long zero xs all = omega arith
as_long (suc n) xs all =
    let at = all n (omega arith) in
    let shorter : length (remove xs at.0) + 1 ≡ length xs = length-remove xs at.0 at.1 in
    let rest : n ≤ length (remove xs at.0) = as_long n (remove xs at.0) (λ k less.
    let there = all k (omega arith) in
    let apart : there.0 ≢ at.0 = λ same.
    let both : k ≡ n = sym there.2 ∙ ap (λ i. get_or xs i k) same ∙ get_or_default xs at.0 k n at.1 ∙ at.2 in
    omega arith in
    two_places xs at.0 there.0 k at.1 there.1 there.2 (apart_places there.0 at.0 apart)) in
    omega (arith, shorter, rest)

same_by : (a b : ℕ) → (t : Bool) → (a == b) ≡ t → (a ≡ b) ⊎ (a ≢ b)
same_by a b true is = inl (grind (arith, nat_tests))
same_by a b false is = inr (grind (arith, nat_tests))

same_or_not : (a b : ℕ) → (a ≡ b) ⊎ (a ≢ b)
same_or_not a b = same_by a b (a == b) refl

twice_by : (n : ℕ) (xs : List ℕ) → ((k : ℕ) → k < n → Contains xs k) → length xs ≡ n → (i j : ℕ) → i < length xs → j < length xs → get_or xs i 0 ≡ get_or xs j 0 → i ≢ j → ⊥
twice_by n xs all long i j hi hj same apart =
    let shorter : length (remove xs j) + 1 ≡ length xs = length-remove xs j hj in
    let rest : n ≤ length (remove xs j) = as_long n (remove xs j) (λ k less.
    let there = all k less in
    elim (same_or_not there.0 j) [
      | inl at_j ↦
          let is : get_or xs i k ≡ k = get_or_default xs i k 0 hi ∙ same ∙ get_or_default xs j 0 k hj ∙ ap (λ q. get_or xs q k) (sym at_j) ∙ there.2 in
          two_places xs j i k hj hi is (apart_places i j apart)
      | inr other ↦ two_places xs j there.0 k hj there.1 there.2 (apart_places there.0 j other)
    ]) in
    omega (arith, shorter, rest)

-- and has none of them twice, where it is no longer
one_place : (n : ℕ) (xs : List ℕ) → ((k : ℕ) → k < n → Contains xs k) → length xs ≡ n → (i j : ℕ) → i < length xs → j < length xs → get_or xs i 0 ≡ get_or xs j 0 → i ≡ j
one_place n xs all long i j hi hj same = elim (same_or_not i j) [ inl equal ↦ equal | inr apart ↦ absurd (twice_by n xs all long i j hi hj same apart) ]

rank_step : (first k : ℕ) (order : List ℕ) → (Contains order k → (rank_in order k < length order) × (get_or order (rank_in order k) 0 ≡ k)) → Contains (first ∷ order) k → (b : Bool) → (first == k) ≡ b
    → (cond b 0 (suc (rank_in order k)) < length (first ∷ order)) × (get_or (first ∷ order) (cond b 0 (suc (rank_in order k))) 0 ≡ k)
rank_step first k order ih there true is = (omega arith, grind (arith, nat_tests))
rank_step first k order ih there false is =
    elim (contains_cases first order k there) [
      | inl same ↦ let bad : true ≡ false = sym (let t : (first == k) ≡ true = grind (arith, nat_tests) in t) ∙ is in absurd cc
      | inr later ↦ let more = ih later in (omega (arith, more.0), more.1)
    ]

-- the rank of an article is its place
rank_at : (order : List ℕ) (k : ℕ) → Contains order k → (rank_in order k < length order) × (get_or order (rank_in order k) 0 ≡ k)
rank_at [] k there = absurd (contains_none k there)
rank_at (first ∷ order) k there = rank_step first k order (rank_at order k) there (first == k) refl

among_at : (order : List ℕ) (k : ℕ) → Contains order k → is_among order k ≡ true
among_at order k there = list_any_at (λ a. k == a) order there.0 k there.1 (let e : get_or order there.0 k ≡ k = there.2 in let t : (k == get_or order there.0 k) ≡ true = grind (arith, nat_tests) in t)

module _ (publication : Publication) (order : List ℕ) (is : IsEvaluationOrder publication order) (links : List Link) (links_are : links ≡ links_of publication) where
  origin : (number : ℕ) (link : Link) → IsAt links number link → Origin 0 publication.articles link
  origin number link at = link_from 0 publication.articles link (subst (λ ls. Contains ls link) links_are (number, at.0, at.1))

  child_there : (number : ℕ) (link : Link) → IsAt links number link → Contains order link.child
  child_there number link at =
      let from = origin number link at in
      let within : from.place < length publication.articles = slice_get_within publication.articles from.place from.article from.stands in
      let place : from.place ≡ link.child = omega (arith, from.child) in
      subst (λ k. Contains order k) place (is.all from.place within)

  ranks : (number : ℕ) (link : Link) → IsAt links number link → rank_in order link.parent < rank_in order link.child
  ranks number link at =
      let from = origin number link at in
      let place : from.place ≡ link.child = omega (arith, from.child) in
      let joins : joins_at publication from.place ≡ from.article.joins = ap joins_of from.stands in
      let first : rank_in order from.join.parent < rank_in order from.place = is.parents_first from.place from.join (subst (λ js. Contains js from.join) (sym joins) from.among) in
      let parent : link.parent ≡ from.join.parent = ap (λ (l : Link). l.parent) from.is in
      subst (λ p. rank_in order p < rank_in order link.child) (sym parent) (subst (λ c. rank_in order from.join.parent < rank_in order c) place first)

  pub links_within : LinksAreWithin links order
  links_within number link at = among_at order link.child (child_there number link at)

  pub none_itself : NoneFollowsItself links
  none_itself number link at same =
      let less : rank_in order link.parent < rank_in order link.child = ranks number link at in
      let equal : rank_in order link.child ≡ rank_in order link.parent = ap (rank_in order) same in
      omega arith

  pub all_among : (article : ℕ) → article < length publication.articles → is_among order article ≡ true
  all_among article less = among_at order article (is.all article less)

  pub parents_first : ParentsComeFirst links order
  parents_first i less number link at parent =
      let here : Contains order link.parent = (i, less, get_or_default order i link.parent 0 less ∙ sym parent) in
      let parent_rank = rank_at order link.parent here in
      let child_rank = rank_at order link.child (child_there number link at) in
      let place : rank_in order link.parent ≡ i = one_place (length publication.articles) order is.all is.once (rank_in order link.parent) i parent_rank.0 less (parent_rank.1 ∙ parent) in
      let later : i < rank_in order link.child = (let r : rank_in order link.parent < rank_in order link.child = ranks number link at in omega arith) in
      let j : ℕ = rank_in order link.child - (i + 1) in
      let back : i + 1 + j ≡ rank_in order link.child = omega arith in
      let within : j < length (drop (i + 1) order) = omega (arith, length-drop (i + 1) order, child_rank.0) in
      let there : get_or (drop (i + 1) order) j 0 ≡ link.child = get_or-drop (i + 1) order j 0 ∙ ap (λ n. get_or order n 0) back ∙ child_rank.1 in
      list_any_at (λ a. link.child == a) (drop (i + 1) order) j 0 within (let t : (link.child == get_or (drop (i + 1) order) j 0) ≡ true = grind (arith, nat_tests) in t)
