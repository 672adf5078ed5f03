-- The names of a publication file: none is given twice, and each that is spoken of is there and fits.
use Rattle.std.specs.Prelude.{ℕ, List, map, Bool, true, false, not, ◌&&◌, ◌||◌, ◌==◌, codes, decimal, if◌then◌else◌, Option, Some, None, find, Result, Ok, Err}
use Rattle.std.specs.List.{list_any}
use Rattle.merge_types.specs.declared.values.Column.{Column}
use Rattle.merge_types.specs.declared.values.ColumnType.{ColumnType}
use Rattle.merge_types.specs.declared.values.ColumnType.TheVariants as types
use Rattle.merge_filter.specs.Types.{column_type}
use Rattle.merge_schema.specs.declared.draft.ArticleDraft.{ArticleDraft}
use Rattle.merge_schema.specs.declared.draft.Draft.{Draft}
use Rattle.merge_schema.specs.declared.draft.JoinDraft.{JoinDraft}
use Rattle.merge_schema.specs.declared.fault.SchemaFault.{SchemaFault}
use Rattle.merge_schema.specs.declared.fault.SchemaFault.TheVariants.{BadValue, Duplicate, UnknownArticle}
use Rattle.merge_schema.specs.declared.publication.Identity.{Identity}
use Rattle.merge_schema.specs.declared.publication.Subscription.{Subscription}
use Rattle.merge_schema.specs.Lookups.{stands_in, first_repeated, column_place, has_column, columns_named, found}
use Rattle.merge_schema.specs.Steps.{◌>>=◌, every, refused_if}

-- names given twice: of articles, of the columns of each article, and of sites by their decimals

abbrev pub article_names : List ArticleDraft → List (List ℕ)
article_names articles = map (λ (article : ArticleDraft). article.name) articles

abbrev pub column_names : List Column → List (List ℕ)
column_names columns = map (λ (column : Column). column.name) columns

abbrev pub site_names : List Subscription → List (List ℕ)
site_names subscriptions = map (λ (subscription : Subscription). decimal subscription.site.0) subscriptions

abbrev pub not_repeated : Option (List ℕ) → Result (Unit {0}) SchemaFault
not_repeated None = Ok tt
not_repeated (Some name) = Err (Duplicate name)

abbrev pub distinct : List (List ℕ) → Result (Unit {0}) SchemaFault
distinct names = not_repeated (first_repeated names)

abbrev pub distinct_columns : ArticleDraft → Result (Unit {0}) SchemaFault
distinct_columns article = distinct (column_names article.columns)

-- the parents of joins, in order

abbrev pub not_unknown : Option JoinDraft → Result (Unit {0}) SchemaFault
not_unknown None = Ok tt
not_unknown (Some join) = Err (UnknownArticle join.parent)

abbrev pub parents_known : List (List ℕ) → ArticleDraft → Result (Unit {0}) SchemaFault
parents_known names article = not_unknown (find (λ (join : JoinDraft). not (stands_in names join.parent)) article.joins)

-- columns that are not there

abbrev pub lacks_column : ArticleDraft → Bool
lacks_column article = list_any (λ (join : JoinDraft). not (has_column article.columns join.column)) article.joins

abbrev pub lacks_parent_column : List ArticleDraft → ArticleDraft → Bool
lacks_parent_column articles article = list_any (λ (join : JoinDraft). not (has_column (columns_named articles join.parent) join.parent_column)) article.joins

abbrev pub lacks_named : List Column → Option (List ℕ) → Bool
lacks_named columns None = false
lacks_named columns (Some name) = not (has_column columns name)

abbrev pub lacks_resolver_column : ArticleDraft → Bool
lacks_resolver_column article = lacks_named article.columns article.resolver_column

-- columns by which a resolver can't decide

-- maximum and minimum compare integers and days
abbrev pub is_compared : Option ColumnType → Bool
is_compared (Some types.Int) = true
is_compared (Some types.Day) = true
is_compared _ = false

-- additive adds integers
abbrev pub is_added : Option ColumnType → Bool
is_added (Some types.Int) = true
is_added _ = false

abbrev pub is_identity : Option Identity → ℕ → Bool
is_identity None place = false
is_identity (Some identity) place = identity.column == place

abbrev pub can_decide : ℕ → Option ColumnType → Bool → Bool
can_decide resolver ty of_identity =
    if (resolver == 1) || (resolver == 2) then is_compared ty
    else if resolver == 3 then is_added ty && not of_identity
    else true

abbrev pub decides_by : ArticleDraft → Option (List ℕ) → Bool
decides_by article None = true
decides_by article (Some name) = can_decide article.resolver (column_type article.columns (found (column_place article.columns name))) (is_identity article.identity (found (column_place article.columns name)))

abbrev pub cannot_decide : ArticleDraft → Bool
cannot_decide article = not (decides_by article article.resolver_column)

-- all of these, each over the whole file before the next
unfoldable pub names_checked : Draft → Result (Unit {0}) SchemaFault
names_checked draft = do
  _ ← distinct (article_names draft.articles)
  _ ← every distinct_columns draft.articles
  _ ← distinct (site_names draft.subscriptions)
  _ ← every (parents_known (article_names draft.articles)) draft.articles
  _ ← refused_if (list_any lacks_column draft.articles) (BadValue (codes "column"))
  _ ← refused_if (list_any (lacks_parent_column draft.articles) draft.articles) (BadValue (codes "parent_column"))
  _ ← refused_if (list_any lacks_resolver_column draft.articles) (BadValue (codes "resolver_column"))
  refused_if (list_any cannot_decide draft.articles) (BadValue (codes "resolver_column"))
