-- The publication that a checked file makes: names become places, and texts become filters.
use Rattle.std.specs.Prelude.{◌≡◌, ◌≢◌, ◌≤◌, ℕ, List, map, length, codes, All, Contains, Option, Some, None, option_map, Result, Ok, Err}
use Rattle.std.specs.List.{AllZip}
use Rattle.merge_types.specs.declared.values.Column.{Column}
use Rattle.merge_filter.specs.Answers.{IsAnswer}
use Rattle.merge_filter.specs.Syntax.{Syntax}
use Rattle.merge_filter.specs.declared.fault.FilterFault.{FilterFault}
use Rattle.merge_filter.specs.declared.fault.FilterFault.TheVariants as filters
use Rattle.merge_schema.specs.declared.draft.ArticleDraft.{ArticleDraft}
use Rattle.merge_schema.specs.declared.draft.Draft.{Draft}
use Rattle.merge_schema.specs.declared.draft.JoinDraft.{JoinDraft}
use Rattle.merge_schema.specs.declared.fault.SchemaFault.{SchemaFault}
use Rattle.merge_schema.specs.declared.fault.SchemaFault.TheVariants.{BadValue}
use Rattle.merge_schema.specs.declared.publication.Article.{Article}
use Rattle.merge_schema.specs.declared.publication.JoinFilter.{JoinFilter}
use Rattle.merge_schema.specs.declared.publication.Publication.{Publication}
use Rattle.merge_schema.specs.Lookups.{column_place, draft_place, columns_named, found}

abbrev pub placed_join : List ArticleDraft → List Column → JoinDraft → JoinFilter
placed_join articles columns join = record {
  column = found (column_place columns join.column);
  parent = found (draft_place articles join.parent);
  parent_column = found (column_place (columns_named articles join.parent) join.parent_column);
}

-- an article of the file, with its filter
abbrev pub placed_article : List ArticleDraft → ArticleDraft → Option Syntax → Article
placed_article articles draft filter = record {
  name = draft.name;
  columns = draft.columns;
  tracking = draft.tracking;
  filter = filter;
  joins = map (placed_join articles draft.columns) draft.joins;
  identity = draft.identity;
  resolver = draft.resolver;
  resolver_column = option_map (λ name. found (column_place draft.columns name)) draft.resolver_column;
}

-- the filter that a text writes over columns
abbrev pub IsFilterOf : List Column → Option (List ℕ) → Option Syntax → Type 0
IsFilterOf columns None None = Unit {0}
IsFilterOf columns (Some text) (Some tree) = IsAnswer columns text (Ok tree)
IsFilterOf columns None (Some tree) = ⊥
IsFilterOf columns (Some text) None = ⊥

-- a text that is no filter over columns
abbrev pub IsNoFilter : List Column → Option (List ℕ) → Type 0
IsNoFilter columns None = ⊥
IsNoFilter columns (Some text) = (fault : FilterFault) × (fault ≢ filters.NoMemory) × IsAnswer columns text (Err fault)

abbrev pub IsPlaced : List ArticleDraft → ArticleDraft → Article → Type 0
IsPlaced articles draft article = IsFilterOf draft.columns draft.filter article.filter × (article ≡ placed_article articles draft article.filter)

-- some article's filter is none
abbrev pub HasNoFilter : List ArticleDraft → Type 0
HasNoFilter articles = (draft : ArticleDraft) × Contains articles draft × IsNoFilter draft.columns draft.filter

-- the articles with their filters, or the refusal of a filter
abbrev pub ArePlaced : List ArticleDraft → Result (List Article) SchemaFault → Type 0
ArePlaced articles (Ok placed) = AllZip (IsPlaced articles) articles placed
ArePlaced articles (Err fault) = HasNoFilter articles × (fault ≡ BadValue (codes "filter"))

abbrev pub publication_of : Draft → List Article → Publication
publication_of draft articles = record {
  name = draft.name;
  retention_days = draft.retention_days;
  conflict_retention_days = draft.conflict_retention_days;
  articles = articles;
  subscriptions = draft.subscriptions;
}

-- places within a file are small
pub record HasFewPlaces (articles : List ArticleDraft) : Type 0 where
  pub few_articles : length articles ≤ 32
  pub few_columns : All (λ (article : ArticleDraft). length article.columns ≤ 64) articles
