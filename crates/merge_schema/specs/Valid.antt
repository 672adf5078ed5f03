-- What holds of every publication that a file says.
use Rattle.std.specs.Prelude.{◌≡◌, ◌≢◌, ◌<◌, ◌≤◌, ℕ, pos, true, int_le, List, length, map, slice_get, All, AllPairs, Option, Some, None}
use Rattle.merge_types.specs.declared.values.Column.{Column}
use Rattle.merge_types.specs.declared.values.ColumnType.TheVariants as types
use Rattle.merge_filter.specs.Eval.{width}
use Rattle.merge_filter.specs.Syntax.{Syntax}
use Rattle.merge_filter.specs.Types.{column_type, are_alike}
use Rattle.merge_script.specs.Names.{is_name_text}
use Rattle.merge_schema.specs.declared.publication.Article.{Article}
use Rattle.merge_schema.specs.declared.publication.Identity.{Identity}
use Rattle.merge_schema.specs.declared.publication.JoinFilter.{JoinFilter}
use Rattle.merge_schema.specs.declared.publication.Publication.{Publication}
use Rattle.merge_schema.specs.declared.publication.SubscriptionKind.TheVariants.{Client}
use Rattle.merge_schema.specs.declared.publication.Subscription.{Subscription}
use Rattle.merge_schema.specs.Ancestors.{columns_if}
use Rattle.merge_schema.specs.Checks.{column_names, can_decide, is_identity}
use Rattle.merge_schema.specs.EvaluationOrder.{IsEvaluationOrder}
use Rattle.merge_schema.specs.ParentsFirst.{evaluation_order}
use Rattle.merge_schema.specs.FileTables.{needs_column}

abbrev pub IsWithin : ℕ → ℕ → ℕ → Type 0
IsWithin low high n = (low ≤ n) × (n ≤ high)

abbrev pub AreDistinct : List (List ℕ) → Type 0
AreDistinct names = AllPairs (λ (a b : List ℕ). a ≢ b) names

pub record HasValidRanges (identity : Identity) : Type 0 where
  pub seed : int_le (pos 1) identity.seed ≡ true
  pub greatest : int_le identity.seed identity.greatest ≡ true
  pub fits : int_le identity.greatest (pos 9223372036854775807) ≡ true
  pub range : IsWithin 1 1000000000 identity.range
  pub pub_range : IsWithin 1 1000000000 identity.pub_range
  pub threshold : IsWithin 1 100 identity.threshold

-- the identity column is of type int
abbrev pub IsValidIdentity : List Column → Identity → Type 0
IsValidIdentity columns identity = (column_type columns identity.column ≡ Some types.Int) × HasValidRanges identity

abbrev pub HasValidIdentity : List Column → Option Identity → Type 0
HasValidIdentity columns None = Unit {0}
HasValidIdentity columns (Some identity) = IsValidIdentity columns identity

-- a join names columns and an article that are there, of types that are alike
pub record IsValidJoin (articles : List Article) (columns : List Column) (join : JoinFilter) : Type 0 where
  pub column : join.column < length columns
  pub parent : join.parent < length articles
  pub parent_column : join.parent_column < length (columns_if (slice_get articles join.parent))
  pub alike : are_alike (column_type columns join.column) (column_type (columns_if (slice_get articles join.parent)) join.parent_column) ≡ true

-- a resolver's column is there, and one by which it can decide
abbrev pub IsValidDecider : List Column → Option Identity → ℕ → Option ℕ → Type 0
IsValidDecider columns identity resolver None = needs_column resolver ≢ true
IsValidDecider columns identity resolver (Some place) = (place < length columns) × (can_decide resolver (column_type columns place) (is_identity identity place) ≡ true)

-- a row with so many values is one that the filter can be evaluated on
abbrev pub FilterFits : Option Syntax → ℕ → Type 0
FilterFits None count = Unit {0}
FilterFits (Some filter) count = width filter ≤ count

pub record IsValidArticle (resolvers : ℕ) (articles : List Article) (article : Article) : Type 0 where
  pub named : is_name_text article.name ≡ true
  pub some_columns : IsWithin 1 64 (length article.columns)
  pub named_columns : All (λ (column : Column). is_name_text column.name ≡ true) article.columns
  pub distinct_columns : AreDistinct (column_names article.columns)
  pub few_joins : length article.joins ≤ 8
  pub valid_joins : All (IsValidJoin articles article.columns) article.joins
  pub valid_resolver : article.resolver < resolvers
  pub valid_decider : IsValidDecider article.columns article.identity article.resolver article.resolver_column
  pub valid_identity : HasValidIdentity article.columns article.identity
  pub filter_fits : FilterFits article.filter (length article.columns)

pub record IsValidSubscription (subscription : Subscription) : Type 0 where
  pub valid_site : IsWithin 1 63 subscription.site.0
  pub short_host : length subscription.host.0 ≤ 128
  pub low_priority : subscription.priority ≤ 9999
  pub no_client : subscription.kind ≡ Client → subscription.priority ≡ 0

-- What holds of a publication that a file says, where so many resolvers are handed in. The articles
-- have an order in which parents come first, so no article is its own ancestor.
pub record IsValid (resolvers : ℕ) (publication : Publication) : Type 0 where
  pub named : is_name_text publication.name ≡ true
  pub valid_retention : IsWithin 1 3650 publication.retention_days
  pub valid_conflict_retention : IsWithin 1 3650 publication.conflict_retention_days
  pub some_articles : IsWithin 1 32 (length publication.articles)
  pub distinct_articles : AreDistinct (map (λ (article : Article). article.name) publication.articles)
  pub valid_articles : All (IsValidArticle resolvers publication.articles) publication.articles
  pub in_order : IsEvaluationOrder publication (evaluation_order publication)
  pub few_subscriptions : length publication.subscriptions ≤ 63
  pub distinct_sites : AllPairs (λ (a b : ℕ). a ≢ b) (map (λ (subscription : Subscription). subscription.site.0) publication.subscriptions)
  pub valid_subscriptions : All (λ (subscription : Subscription). IsValidSubscription subscription) publication.subscriptions
