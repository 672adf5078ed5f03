-- Orders of the articles in which parents stand before their children.
use Rattle.std.specs.Prelude.{◌≡◌, ◌<◌, ℕ, suc, ◌==◌, if◌then◌else◌, List, [], ◌∷◌, length, Contains}
use Rattle.merge_schema.specs.declared.publication.JoinFilter.{JoinFilter}
use Rattle.merge_schema.specs.declared.publication.Publication.{Publication}
use Rattle.merge_schema.specs.Partition.{joins_at}

-- how many articles stand before this one, and all of them where it is not in the order
abbrev pub rank_in : List ℕ → ℕ → ℕ
rank_in [] place = 0
rank_in (first ∷ order) place = if first == place then 0 else suc (rank_in order place)

-- The order has each article once, by its place, and each one's parents stand before it.
-- A parent that is no article of the publication stands before none.
pub record IsEvaluationOrder (publication : Publication) (order : List ℕ) : Type 0 where
  pub all : (place : ℕ) → place < length publication.articles → Contains order place
  pub once : length order ≡ length publication.articles
  pub parents_first : (place : ℕ) (join : JoinFilter) → Contains (joins_at publication place) join → rank_in order join.parent < rank_in order place
