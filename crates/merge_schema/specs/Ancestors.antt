-- Joins between articles: their types, and the articles that they lead to.
use Rattle.std.specs.Prelude.{ℕ, zero, suc, ◌+◌, List, [], ◌∷◌, map, length, slice_get, slice_index_or, Bool, false, not, ◌||◌, ◌==◌, Option, Some, None, Result, Ok}
use Rattle.std.specs.List.{list_any}
use Rattle.merge_types.specs.declared.values.Column.{Column}
use Rattle.merge_filter.specs.Types.{column_type, are_alike}
use Rattle.merge_schema.specs.declared.fault.SchemaFault.{SchemaFault}
use Rattle.merge_schema.specs.declared.fault.SchemaFault.TheVariants.{JoinTypes, JoinCycle}
use Rattle.merge_schema.specs.declared.publication.Article.{Article}
use Rattle.merge_schema.specs.declared.publication.JoinFilter.{JoinFilter}
use Rattle.merge_schema.specs.Steps.{◌>>=◌, every, refused_if}

abbrev pub columns_if : Option Article → List Column
columns_if None = []
columns_if (Some article) = article.columns

-- whether a join of an article compares columns of unlike types
abbrev pub is_unlike : List Article → Article → JoinFilter → Bool
is_unlike articles article join = not (are_alike (column_type article.columns join.column) (column_type (columns_if (slice_get articles join.parent)) join.parent_column))

abbrev pub joins_alike : List Article → Article → Result (Unit {0}) SchemaFault
joins_alike articles article = refused_if (list_any (is_unlike articles article) article.joins) (JoinTypes article.name)

-- whether some join leads to the article, or to one that is marked
abbrev pub leads_to : ℕ → List Bool → List JoinFilter → Bool
leads_to place marks joins = list_any (λ (join : JoinFilter). (join.parent == place) || slice_index_or marks join.parent false) joins

-- for each article, whether at most so many joins lead from it to the article at a place
abbrev pub descendants_within : ℕ → List Article → ℕ → List Bool
descendants_within zero articles place = []
descendants_within (suc n) articles place = map (λ (article : Article). leads_to place (descendants_within n articles place) article.joins) articles

-- Whether an article is an ancestor of another. A path of joins need not go through an article twice,
-- so none needs to be longer than there are articles.
abbrev pub is_ancestor : List Article → ℕ → ℕ → Bool
is_ancestor articles ancestor place = slice_index_or (descendants_within (length articles) articles ancestor) place false

-- no article from a place on is its own ancestor
abbrev pub no_own_ancestor : List Article → ℕ → List Article → Result (Unit {0}) SchemaFault
no_own_ancestor articles place [] = Ok tt
no_own_ancestor articles place (article ∷ rest) = refused_if (is_ancestor articles place place) (JoinCycle article.name) >>= λ _. no_own_ancestor articles (place + 1) rest

unfoldable pub joins_checked : List Article → Result (Unit {0}) SchemaFault
joins_checked articles = every (joins_alike articles) articles >>= λ _. no_own_ancestor articles 0 articles
