-- Ancestors, by chains of joins of any length.
use Rattle.std.specs.Prelude.{◌≡◌, ℕ, zero, suc, ◌⊎◌, ◌↔◌, true, List, slice_get, Contains}
use Rattle.merge_schema.specs.declared.publication.Article.{Article}
use Rattle.merge_schema.specs.declared.publication.JoinFilter.{JoinFilter}
use Rattle.merge_schema.specs.Ancestors.{is_ancestor}
use Rattle.merge_schema.specs.Partition.{joins_of}

-- a chain of at most so many joins leads from the article at a place to an ancestor
abbrev pub LeadsWithin : List Article → ℕ → ℕ → ℕ → Type 0
LeadsWithin articles ancestor zero place = ⊥
LeadsWithin articles ancestor (suc n) place =
    (join : JoinFilter) × Contains (joins_of (slice_get articles place)) join × ((join.parent ≡ ancestor) ⊎ LeadsWithin articles ancestor n join.parent)

abbrev pub IsAncestor : List Article → ℕ → ℕ → Type 0
IsAncestor articles ancestor place = (n : ℕ) × LeadsWithin articles ancestor n place

-- the search finds exactly the ancestors
abbrev pub AncestorsAreFound : Type 0
AncestorsAreFound = (articles : List Article) (ancestor place : ℕ) → (is_ancestor articles ancestor place ≡ true) ↔ IsAncestor articles ancestor place
