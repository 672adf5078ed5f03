-- Chains of joins: none needs to be longer than there are articles.
use Rattle.std.proofs.Common.{◌≡◌, ℕ, zero, suc, ◌<◌, ◌≤◌, Bool, true, false, ◌||◌, ◌==◌, ◌⊎◌, inl, inr, List, [], ◌∷◌, length, map, slice_index_or, refl, sym, ◌∙◌, arith}
use Rattle.std.specs.List.{Contains, slice_get}
use Rattle.std.proofs.lemmas.Bool.{false≢true}
use Rattle.std.proofs.lemmas.Bool.Decides.{nat_tests}
use Rattle.merge_schema.specs.declared.publication.Article.{Article}
use Rattle.merge_schema.specs.declared.publication.JoinFilter.{JoinFilter}
use Rattle.merge_schema.specs.Ancestors.{leads_to, descendants_within, is_ancestor}
use Rattle.merge_schema.specs.AncestorLaws.{LeadsWithin, IsAncestor}
use Rattle.merge_schema.specs.Partition.{joins_of}
use Rattle.merge_schema.proofs.ListMembers.{any_found, any_at, contains_none}
use Rattle.merge_schema.specs.ParentsFirst.{count_below}
use Rattle.merge_schema.proofs.Counts.{count_within, count_strict, first_new}

-- a mark at a place is that of the article there
mark_at : (g : List JoinFilter → Bool) → g [] ≡ false → (articles : List Article) (place : ℕ) → slice_index_or (map (λ (article : Article). g article.joins) articles) place false ≡ g (joins_of (slice_get articles place))
mark_at g none [] place = sym none
mark_at g none (article ∷ articles) zero = refl
mark_at g none (article ∷ articles) (suc place) = mark_at g none articles place

module _ (articles : List Article) (ancestor : ℕ) where
  abbrev pub marked : ℕ → ℕ → Bool
  marked n place = slice_index_or (descendants_within n articles ancestor) place false

  marked_by : (n place : ℕ) → marked (suc n) place ≡ leads_to ancestor (descendants_within n articles ancestor) (joins_of (slice_get articles place))
  marked_by n place = mark_at (leads_to ancestor (descendants_within n articles ancestor)) refl articles place

  either : (b c : Bool) → (b || c) ≡ true → (b ≡ true) ⊎ (c ≡ true)
  either true c h = inl refl
  either false c h = inr h

  left : (b c : Bool) → b ≡ true → (b || c) ≡ true
  left true c h = refl
  left false c h = absurd (false≢true h)

  right : (b c : Bool) → c ≡ true → (b || c) ≡ true
  right true c h = refl
  right false c h = h

  -- a mark is a chain of joins
  pub chain_from : (n place : ℕ) → marked n place ≡ true → LeadsWithin articles ancestor n place
  chain_from zero place h = absurd (false≢true h)
  chain_from (suc n) place h =
      let found = any_found (λ (join : JoinFilter). (join.parent == ancestor) || marked n join.parent) (joins_of (slice_get articles place)) (sym (marked_by n place) ∙ h) in (
        found.0,
        found.1,
        elim (either (found.0.parent == ancestor) (marked n found.0.parent) found.2) [
          | inl same ↦ inl (grind (arith, nat_tests))
          | inr more ↦ inr (chain_from n found.0.parent more)
        ],
      )

  same_true : (m n : ℕ) → m ≡ n → (m == n) ≡ true
  same_true m n h = grind (arith, nat_tests)

  pub mark_from : (n place : ℕ) → LeadsWithin articles ancestor n place → marked n place ≡ true
  mark_from zero place h = absurd h
  mark_from (suc n) place (join, there, way) =
      marked_by n place ∙ any_at (λ (j : JoinFilter). (j.parent == ancestor) || marked n j.parent) (joins_of (slice_get articles place)) join there (elim way [
        | inl same ↦ left (join.parent == ancestor) (marked n join.parent) (same_true join.parent ancestor same)
        | inr more ↦ right (join.parent == ancestor) (marked n join.parent) (mark_from n join.parent more)
      ])

  -- a longer chain may have its length added to
  abbrev more : ℕ → ℕ → ℕ
  more zero k = k
  more (suc m) k = suc (more m k)

  longer : (m k place : ℕ) → LeadsWithin articles ancestor m place → LeadsWithin articles ancestor (more m k) place
  longer zero k place h = absurd h
  longer (suc m) k place (join, there, way) = (
    join,
    there,
    elim way [
      | inl same ↦ inl same
      | inr chain ↦ inr (longer m k join.parent chain)
    ],
  )

  pub within_more : (k n place : ℕ) → k ≤ n → LeadsWithin articles ancestor k place → LeadsWithin articles ancestor n place
  within_more zero n place le h = absurd h
  within_more (suc k) zero place le h = absurd (omega arith)
  within_more (suc k) (suc n) place le (join, there, way) = (
    join,
    there,
    elim way [
      | inl same ↦ inl same
      | inr chain ↦ inr (within_more k n join.parent (omega arith) chain)
    ],
  )

  abbrev Stable : ℕ → Type 0
  Stable k = (place : ℕ) → LeadsWithin articles ancestor (suc k) place → LeadsWithin articles ancestor k place

  stays : (k : ℕ) → Stable k → (m place : ℕ) → LeadsWithin articles ancestor (more m k) place → LeadsWithin articles ancestor k place
  stays k stable zero place h = h
  stays k stable (suc m) place (join, there, way) = stable place (
    join,
    there,
    elim way [
      | inl same ↦ inl same
      | inr chain ↦ inr (stays k stable m join.parent chain)
    ],
  )

  within_list : (xs : List Article) (place : ℕ) (join : JoinFilter) → Contains (joins_of (slice_get xs place)) join → place < length xs
  within_list [] place join there = absurd (contains_none join there)
  within_list (x ∷ xs) zero join there = omega arith
  within_list (x ∷ xs) (suc place) join there = let h = within_list xs place join there in omega arith

  stable_from : (k : ℕ) → ((place : ℕ) → place < length articles → marked (suc k) place ≡ true → marked k place ≡ true) → Stable k
  stable_from k none place (join, there, way) =
      chain_from k place (none place (within_list articles place join there) (mark_from (suc k) place (join, there, way)))

  grows : (k : ℕ) → ((j : ℕ) × (j < k) × Stable j) ⊎ (k ≤ count_below (marked k) (length articles))
  grows zero = inr (omega arith)
  grows (suc k) = elim (grows k) [
    | inl s ↦ inl (s.0, omega arith, s.2)
    | inr le ↦ elim (first_new (marked k) (marked (suc k)) (length articles)) [
      | inl new ↦ let less = count_strict (marked k) (marked (suc k)) (length articles) (λ place h. mark_from (suc k) place (within_more k (suc k) place (omega arith) (chain_from k place h))) new.0 new.1 new.2 new.3 in inr (omega arith)
      | inr none ↦ inl (k, omega arith, stable_from k none)
    ]
  ]

  -- as many joins as there are articles are enough
  pub short_chain : (m place : ℕ) → LeadsWithin articles ancestor m place → LeadsWithin articles ancestor (length articles) place
  short_chain m place h = elim (grows (suc (length articles))) [
    | inl s ↦ within_more s.0 (length articles) place (omega arith) (stays s.0 s.2 m place (longer m s.0 place h))
    | inr le ↦ let most = count_within (marked (suc (length articles))) (length articles) in absurd (omega arith)
  ]

  pub ancestor_found : (place : ℕ) → IsAncestor articles ancestor place → is_ancestor articles ancestor place ≡ true
  ancestor_found place (m, chain) = mark_from (length articles) place (short_chain m place chain)

  pub ancestor_is : (place : ℕ) → is_ancestor articles ancestor place ≡ true → IsAncestor articles ancestor place
  ancestor_is place h = (length articles, chain_from (length articles) place h)
