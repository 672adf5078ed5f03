-- A partition is the least set of rows that meets the rule.
use Rattle.std.proofs.Common.{◌≡◌, ℕ, ◌<◌, zero, suc, Bool, true, false, ◌||◌, ◌==◌, List, [], ◌∷◌, length, Option, None, Some, inl, inr, refl, sym, ap, subst, eq-eqb, arith}
use Rattle.std.specs.Prelude.{◌↔◌}
use Rattle.std.specs.List.{Contains, list_any, flat_map, range_with_len, slice_get}
use Rattle.std.proofs.lemmas.Bool.Decides.{nat_tests}
use Rattle.std.proofs.lemmas.Option.{slice_get_cases}
use Rattle.std.proofs.lemmas.Map.Views.{exact_unsigned_eq}
use Rattle.merge_types.specs.declared.identifiers.HostName.{HostName}
use Rattle.merge_types.specs.declared.identifiers.RowId.{RowId}
use Rattle.merge_schema.specs.declared.publication.Article.{Article}
use Rattle.merge_schema.specs.declared.publication.JoinFilter.{JoinFilter}
use Rattle.merge_schema.specs.declared.publication.Publication.{Publication}
use Rattle.merge_schema.specs.EvaluationOrder.{IsEvaluationOrder, rank_in}
use Rattle.merge_schema.specs.Partition.{LiveRow, joins_of, joins_at, is_whole, passes, is_parent, has_parent, belongs_to, belongs, rows_of, rows_within, rows_inside, partition_of, is_in}
use Rattle.merge_schema.specs.PartitionLaws.{MeetsRule, HasReasons, LiesWithin}
use Rattle.merge_schema.proofs.ListMembers.{contains_none, contains_cases, contains_filter, contains_from_filter, any_found, any_at, contains_flat_map, contains_from_flat_map, contains_below}

-- a row's parent is a row of the join's article
parent_article : (join : JoinFilter) (row parent : LiveRow) → is_parent join row parent ≡ true → parent.article ≡ join.parent
parent_article join row parent is = grind (arith, nat_tests, is)

parent_inside : (a b : List LiveRow) (row : LiveRow) (join : JoinFilter) → ((parent : LiveRow) → parent.article ≡ join.parent → Contains a parent → Contains b parent)
    → has_parent a row join ≡ true → has_parent b row join ≡ true
parent_inside a b row join more found =
    let at = any_found (is_parent join row) a found in
    any_at (is_parent join row) b at.0 (more at.0 (parent_article join row at.0 at.2) at.1) at.2

some_parent_inside : (a b : List LiveRow) (row : LiveRow) (joins : List JoinFilter)
    → ((join : JoinFilter) (parent : LiveRow) → Contains joins join → parent.article ≡ join.parent → Contains a parent → Contains b parent)
    → list_any (has_parent a row) joins ≡ true → list_any (has_parent b row) joins ≡ true
some_parent_inside a b row joins more found =
    let at = any_found (has_parent a row) joins found in
    any_at (has_parent b row) joins at.0 at.1 (parent_inside a b row at.0 (λ parent. more at.0 parent at.1) at.2)

last_more : (p q x y : Bool) → (x ≡ true → y ≡ true) → (p || q || x) ≡ true → (p || q || y) ≡ true
last_more true q x y more holds = refl
last_more false true x y more holds = refl
last_more false false x y more holds = more holds

belongs_to_more : (article : Option Article) (host : HostName) (a b : List LiveRow) (row : LiveRow)
    → ((join : JoinFilter) (parent : LiveRow) → Contains (joins_of article) join → parent.article ≡ join.parent → Contains a parent → Contains b parent)
    → belongs_to article host a row ≡ true → belongs_to article host b row ≡ true
belongs_to_more None host a b row more holds = holds
belongs_to_more (Some article) host a b row more holds =
    last_more (is_whole article) (passes article.filter host row) (list_any (has_parent a row) article.joins) (list_any (has_parent b row) article.joins)
    (some_parent_inside a b row article.joins more) holds

-- an article that is there has a place below their number
belongs_to_place : (publication : Publication) (host : HostName) (inside : List LiveRow) (row : LiveRow) → belongs publication host inside row ≡ true → row.article < length publication.articles
belongs_to_place publication host inside row holds =
    elim ((slice_get_cases publication.articles row.article).1) [
      | inl there ↦ there.1
      | inr past ↦ let none = subst (λ (o : Option Article). belongs_to o host inside row ≡ true) past.1 holds in absurd cc
    ]

-- an article that is in an order stands before its end
rank_in_order : (order : List ℕ) (place : ℕ) → Contains order place → rank_in order place < length order
rank_in_order [] place there = absurd (contains_none place there)
rank_in_order (first ∷ order) place there =
    elim (contains_cases first order place there) [
      | inl same ↦ grind (arith, nat_tests, same)
      | inr later ↦ grind (arith, nat_tests, rank_in_order order place later)
    ]

abbrev row_from : ℕ → RowId
row_from n = record { 0 = n }

module _ (publication : Publication) (host : HostName) (live : List LiveRow) where
  -- a row that belongs still does where all parents of its that were inside are
  belongs_more : (a b : List LiveRow) (row : LiveRow)
      → ((join : JoinFilter) (parent : LiveRow) → Contains (joins_at publication row.article) join → parent.article ≡ join.parent → Contains a parent → Contains b parent)
      → belongs publication host a row ≡ true → belongs publication host b row ≡ true
  belongs_more a b row more holds = belongs_to_more (slice_get publication.articles row.article) host a b row more holds

  abbrev within : ℕ → ℕ → List LiveRow
  within n place = rows_within n publication host live place

  -- the rows of an article's parents
  abbrev parents : ℕ → ℕ → List LiveRow
  parents n place = flat_map (λ (join : JoinFilter). within n join.parent) (joins_at publication place)

  of_place : (row : LiveRow) (place : ℕ) → (row.article == place) ≡ true → row.article ≡ place
  of_place row place is = grind (arith, nat_tests, is)

  place_of : (row : LiveRow) (place : ℕ) → row.article ≡ place → (row.article == place) ≡ true
  place_of row place is = grind (arith, nat_tests, is)

  -- what a row within one more article is
  within_cases : (n place : ℕ) (row : LiveRow) → Contains (within (suc n) place) row → Contains live row × (row.article ≡ place) × (belongs publication host (parents n place) row ≡ true)
  within_cases n place row there =
      let kept = contains_from_filter (belongs publication host (parents n place)) (rows_of place live) row there in
      let of = contains_from_filter (λ (r : LiveRow). r.article == place) live row kept.0 in
      (of.0, of_place row place of.1, kept.1)

  within_more : (n place : ℕ) (row : LiveRow) → Contains live row → row.article ≡ place → belongs publication host (parents n place) row ≡ true → Contains (within (suc n) place) row
  within_more n place row lives is holds =
      contains_filter (belongs publication host (parents n place)) (rows_of place live) row
      (contains_filter (λ (r : LiveRow). r.article == place) live row lives (place_of row place is)) holds

  -- a row that is found lives, and its article is there
  within_is : (n place : ℕ) (row : LiveRow) → Contains (within n place) row → Contains live row × (row.article ≡ place) × (row.article < length publication.articles)
  within_is zero place row there = absurd (contains_none row there)
  within_is (suc n) place row there =
      let is = within_cases n place row there in
      (is.0, is.1, belongs_to_place publication host (parents n place) row is.2)

  -- it lies within every set that meets the rule
  least_within : (inside : List LiveRow) → MeetsRule publication host live inside → (n place : ℕ) (row : LiveRow) → Contains (within n place) row → Contains inside row
  least_within inside meets zero place row there = absurd (contains_none row there)
  least_within inside meets (suc n) place row there =
      let is = within_cases n place row there in
      meets row is.0
      (belongs_more (parents n place) inside row
      (λ join parent has same above.
      let from = contains_from_flat_map (λ (other : JoinFilter). within n other.parent) (joins_at publication place) parent above in
      least_within inside meets n from.0.parent parent from.2)
      is.2)

  -- one article more leaves what is there
  within_grows : (n place : ℕ) (row : LiveRow) → Contains (within n place) row → Contains (within (suc n) place) row
  within_grows zero place row there = absurd (contains_none row there)
  within_grows (suc n) place row there =
      let is = within_cases n place row there in
      within_more (suc n) place row is.0 is.1
      (belongs_more (parents n place) (parents (suc n) place) row
      (λ join parent has same above.
      let from = contains_from_flat_map (λ (other : JoinFilter). within n other.parent) (joins_at publication place) parent above in
      contains_flat_map (λ (other : JoinFilter). within (suc n) other.parent) (joins_at publication place) from.0 parent from.1 (within_grows n from.0.parent parent from.2))
      is.2)

  module _ (rank : ℕ → ℕ) (below : (place : ℕ) (join : JoinFilter) → Contains (joins_at publication place) join → rank join.parent < rank place) where
    -- one article more than the rank finds nothing more
    within_settles : (n place : ℕ) (row : LiveRow) → rank place < n → Contains (within (suc n) place) row → Contains (within n place) row
    within_settles zero place row less there = absurd (omega arith)
    within_settles (suc n) place row less there =
        let is = within_cases (suc n) place row there in
        within_more n place row is.0 is.1
        (belongs_more (parents (suc n) place) (parents n place) row
        (λ join parent has same above.
        let from = contains_from_flat_map (λ (other : JoinFilter). within (suc n) other.parent) (joins_at publication place) parent above in
        contains_flat_map (λ (other : JoinFilter). within n other.parent) (joins_at publication place) from.0 parent from.1
        (within_settles n from.0.parent parent (omega (arith, below place from.0 from.1)) from.2))
        is.2)

    -- a set whose rows live and belong has no other rows
    within_has : (inside : List LiveRow) → HasReasons publication host live inside → (n place : ℕ) (row : LiveRow) → rank place < n → row.article ≡ place → Contains inside row → Contains (within n place) row
    within_has inside reasons zero place row less is there = absurd (omega arith)
    within_has inside reasons (suc n) place row less is there =
        within_more n place row (reasons row there).0 is
        (belongs_more inside (parents n place) row
        (λ join parent has same above.
        let joined : Contains (joins_at publication place) join = subst (λ (p : ℕ). Contains (joins_at publication p) join) is has in
        contains_flat_map (λ (other : JoinFilter). within n other.parent) (joins_at publication place) join parent joined
        (within_has inside reasons n join.parent parent (omega (arith, below place join joined)) same above))
        (reasons row there).1)

  -- the partition's rows are those of each article
  within_all : (row : LiveRow) → Contains (partition_of publication host live) row → Contains (within (length publication.articles) row.article) row
  within_all row there =
      let from = contains_from_flat_map (rows_inside publication host live) (range_with_len 0 (length publication.articles)) row there in
      subst (λ (place : ℕ). Contains (within (length publication.articles) place) row) (sym (within_is (length publication.articles) from.0 row from.2).1) from.2

  all_within : (place : ℕ) (row : LiveRow) → Contains (within (length publication.articles) place) row → Contains (partition_of publication host live) row
  all_within place row there =
      let is = within_is (length publication.articles) place row there in
      contains_flat_map (rows_inside publication host live) (range_with_len 0 (length publication.articles)) place row
      (contains_below (length publication.articles) place (subst (λ (p : ℕ). p < length publication.articles) is.1 is.2)) there

  -- the partition lies within every set that meets the rule
  pub partition_least : (inside : List LiveRow) → MeetsRule publication host live inside → LiesWithin (partition_of publication host live) inside
  partition_least inside meets row there = least_within inside meets (length publication.articles) row.article row (within_all row there)

  -- each of its rows lives and belongs
  pub partition_reasons : HasReasons publication host live (partition_of publication host live)
  partition_reasons row there =
      let n = length publication.articles in
      let is = within_cases n row.article row (within_grows n row.article row (within_all row there)) in (
        is.0,
        belongs_more (parents n row.article) (partition_of publication host live) row
            (λ join parent has same above.
            let from = contains_from_flat_map (λ (other : JoinFilter). within n other.parent) (joins_at publication row.article) parent above in
            all_within from.0.parent parent from.2)
            is.2,
      )

  module _ (order : List ℕ) (is_order : IsEvaluationOrder publication order) where
    rank_less : (inside : List LiveRow) (row : LiveRow) → belongs publication host inside row ≡ true → rank_in order row.article < length publication.articles
    rank_less inside row holds =
        subst (λ (n : ℕ). rank_in order row.article < n) is_order.once
        (rank_in_order order row.article (is_order.all row.article (belongs_to_place publication host inside row holds)))

    -- the partition meets the rule
    pub partition_meets : MeetsRule publication host live (partition_of publication host live)
    partition_meets row lives holds =
        let n = length publication.articles in
        all_within row.article row
        (within_settles (rank_in order) is_order.parents_first n row.article row (rank_less (partition_of publication host live) row holds)
        (within_more n row.article row lives refl
        (belongs_more (partition_of publication host live) (parents n row.article) row
        (λ join parent has same above.
        contains_flat_map (λ (other : JoinFilter). within n other.parent) (joins_at publication row.article) join parent has
        (subst (λ (place : ℕ). Contains (within n place) parent) same (within_all parent above)))
        holds)))

    -- and no set whose rows live and belong has others
    pub partition_only : (inside : List LiveRow) → HasReasons publication host live inside → LiesWithin inside (partition_of publication host live)
    partition_only inside reasons row there =
        all_within row.article row
        (within_has (rank_in order) is_order.parents_first inside reasons (length publication.articles) row.article row (rank_less inside row (reasons row there).1) refl there)

  row_same : (inside : LiveRow) (row : RowId) → (inside.row.0 == row.0) ≡ true → inside.row ≡ row
  row_same inside row is = ap row_from (exact_unsigned_eq inside.row.0 row.0 is)

  same_row : (inside : LiveRow) (row : RowId) → inside.row ≡ row → (inside.row.0 == row.0) ≡ true
  same_row inside row is = eq-eqb inside.row.0 row.0 (ap (λ (r : RowId). r.0) is)

  -- to be in is to be one of the partition's rows
  pub in_by_partition : (place : ℕ) (row : RowId) → (is_in publication host live place row ≡ true) ↔ ((inside : LiveRow) × Contains (partition_of publication host live) inside × (inside.article ≡ place) × (inside.row ≡ row))
  in_by_partition place row = (
    λ found.
        let at = any_found (λ (inside : LiveRow). inside.row.0 == row.0) (rows_inside publication host live place) found in
        (at.0, all_within place at.0 at.1, (within_is (length publication.articles) place at.0 at.1).1, row_same at.0 row at.2),
    λ has.
        any_at (λ (inside : LiveRow). inside.row.0 == row.0) (rows_inside publication host live place) has.0
        (subst (λ (p : ℕ). Contains (within (length publication.articles) p) has.0) has.2 (within_all has.0 has.1)) (same_row has.0 row has.3),
  )
