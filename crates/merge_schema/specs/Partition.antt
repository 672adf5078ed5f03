-- The partition of a site: the live rows that it gets.
use Rattle.std.specs.Prelude.{ℕ, zero, suc, Bool, true, false, ◌&&◌, ◌||◌, ◌==◌, List, [], ◌∷◌, length, filter, slice_index_or, Option, Some, None, option_map, find, is_none}
use Rattle.std.specs.List.{list_any, flat_map, range_with_len}
use Rattle.merge_types.specs.declared.identifiers.HostName.{HostName}
use Rattle.merge_types.specs.declared.identifiers.RowId.{RowId}
use Rattle.merge_types.specs.declared.identifiers.SiteId.{SiteId}
use Rattle.merge_types.specs.declared.values.Value.{Value}
use Rattle.merge_types.specs.declared.values.Value.TheVariants as values
use Rattle.merge_filter.specs.declared.evaluation.Truth.{Truth}
use Rattle.merge_filter.specs.declared.evaluation.Truth.TheVariants.{True, False, Unknown}
use Rattle.merge_filter.specs.declared.word.Sign.TheVariants.{Equal}
use Rattle.merge_filter.specs.Syntax.{Syntax}
use Rattle.merge_filter.specs.Eval.{truth, truth_of_comparison}
use Rattle.merge_schema.specs.declared.publication.Article.{Article}
use Rattle.merge_schema.specs.declared.publication.JoinFilter.{JoinFilter}
use Rattle.merge_schema.specs.declared.publication.Publication.{Publication}
use Rattle.merge_schema.specs.declared.publication.Subscription.{Subscription}
pub use Rattle.merge_schema.specs.Places.{article_at}

-- a live row of an article, which is named by its place
pub record LiveRow : Type 0 where
  pub article : ℕ
  pub row : RowId
  pub values : List Value

-- the value in a column, and Null where the row has no such column
abbrev pub value_at : LiveRow → ℕ → Value
value_at row column = slice_index_or row.values column values.Null

abbrev pub joins_of : Option Article → List JoinFilter
joins_of None = []
joins_of (Some article) = article.joins

abbrev pub joins_at : Publication → ℕ → List JoinFilter
joins_at publication place = joins_of (article_at publication place)

abbrev pub is_true : Truth → Bool
is_true True = true
is_true False = false
is_true Unknown = false

abbrev pub is_empty : {X : Type 0} → List X → Bool
is_empty [] = true
is_empty (x ∷ xs) = false

-- whether an article has neither row filter nor join filters, so that each site gets all of it
abbrev pub is_whole : Article → Bool
is_whole article = is_none article.filter && is_empty article.joins

-- whether there is a row filter and it is true of the row at the host
abbrev pub passes : Option Syntax → HostName → LiveRow → Bool
passes None host row = false
passes (Some filter) host row = is_true (truth filter row.values host)

-- whether two values join: they are equal, and not Null
abbrev pub are_joined : Value → Value → Bool
are_joined child parent = is_true (truth_of_comparison child Equal parent)

-- whether a row is the join's parent of a row
abbrev pub is_parent : JoinFilter → LiveRow → LiveRow → Bool
is_parent join row parent = (parent.article == join.parent) && are_joined (value_at row join.column) (value_at parent join.parent_column)

-- whether a parent of the row is among the rows inside
abbrev pub has_parent : List LiveRow → LiveRow → JoinFilter → Bool
has_parent inside row join = list_any (is_parent join row) inside

-- The rule: whether a live row belongs to the partition at a host in which these rows are inside.
-- An article without row filter and joins is wholly in. A row of another one is in where the row
-- filter is true of it, or where one of the joins has a parent of it that is inside.
abbrev pub belongs_to : Option Article → HostName → List LiveRow → LiveRow → Bool
belongs_to None host inside row = false
belongs_to (Some article) host inside row = is_whole article || passes article.filter host row || list_any (has_parent inside row) article.joins

abbrev pub belongs : Publication → HostName → List LiveRow → LiveRow → Bool
belongs publication host inside row = belongs_to (article_at publication row.article) host inside row

-- the live rows of one article
abbrev pub rows_of : ℕ → List LiveRow → List LiveRow
rows_of place live = filter (λ row. row.article == place) live

-- The rows of an article that belong for a reason through at most so many articles, of which its own
-- is the first, that of a parent the second, and so on. Where no join leads back to an article that a
-- reason went through, none goes through one twice. So as many articles as there are find each row
-- that belongs, which makes this the least set, and more find nothing more. Joins in a circle have a
-- value too.
abbrev pub rows_within : ℕ → Publication → HostName → List LiveRow → ℕ → List LiveRow
rows_within zero publication host live place = []
rows_within (suc n) publication host live place =
    filter (belongs publication host (flat_map (λ join. rows_within n publication host live join.parent) (joins_at publication place))) (rows_of place live)

-- the rows of one article that are in the partition at a host
abbrev pub rows_inside : Publication → HostName → List LiveRow → ℕ → List LiveRow
rows_inside publication host live place = rows_within (length publication.articles) publication host live place

-- the partition at a host, by article, and within an article in the order of the live rows
abbrev pub partition_of : Publication → HostName → List LiveRow → List LiveRow
partition_of publication host live = flat_map (rows_inside publication host live) (range_with_len 0 (length publication.articles))

-- whether the row of an article is in the partition at a host
abbrev pub is_in : Publication → HostName → List LiveRow → ℕ → RowId → Bool
is_in publication host live place row = list_any (λ inside. inside.row.0 == row.0) (rows_inside publication host live place)

-- the host of a site that subscribes
abbrev pub host_of : Publication → SiteId → Option HostName
host_of publication site = option_map (λ (subscription : Subscription). subscription.host) (find (λ (subscription : Subscription). subscription.site.0 == site.0) publication.subscriptions)

-- the same for a site. One that does not subscribe gets nothing
abbrev pub partition_where : Option HostName → Publication → List LiveRow → List LiveRow
partition_where None publication live = []
partition_where (Some host) publication live = partition_of publication host live

abbrev pub partition_at : Publication → SiteId → List LiveRow → List LiveRow
partition_at publication site live = partition_where (host_of publication site) publication live

abbrev pub is_in_where : Option HostName → Publication → List LiveRow → ℕ → RowId → Bool
is_in_where None publication live place row = false
is_in_where (Some host) publication live place row = is_in publication host live place row

abbrev pub is_in_at : Publication → SiteId → List LiveRow → ℕ → RowId → Bool
is_in_at publication site live place row = is_in_where (host_of publication site) publication live place row
