-- How changes of rows are taken up.
use Rattle.std.specs.Prelude.{◌≡◌, ◌+◌, ℕ, Bool, false, List, [], ◌∷◌, ◌++◌, AllPairs, length, Option, Some, None}
use Rattle.std.specs.List.{slice_get}
use Rattle.merge_types.specs.declared.values.Value.{Value}
use Rattle.merge_table.specs.declared.edit.Edit.{Edit}
use Rattle.merge_schema.specs.declared.publication.Article.{Article}
use Rattle.merge_schema.specs.declared.publication.Publication.{Publication}
use Rattle.merge_schema.specs.declared.publication.Subscription.{Subscription}
use Rattle.merge_types.specs.declared.row_key.RowKey.{RowKey}
use Rattle.merge_part.specs.declared.content.Content.{Content}
use Rattle.merge_part.specs.declared.change.RowChange.{RowChange}
use Rattle.merge_part.specs.Draft.{edit_to}
use Rattle.merge_part.specs.Filtering.{is_filtered}
use Rattle.merge_part.specs.Sites.{has_site}

-- whether the row filter alone has a row in the partition of the subscriber at the place
abbrev pub filtered_by : Option Article → List Subscription → List Value → ℕ → Bool
filtered_by None subscriptions values place = false
filtered_by (Some article) subscriptions values place = is_filtered article subscriptions values place

abbrev pub filtered_in : Publication → ℕ → List Value → ℕ → Bool
filtered_in publication article values place = filtered_by (slice_get publication.articles article) publication.subscriptions values place

-- what is held of a row with these values
pub record Holds (publication : Publication) (article : ℕ) (values : List Value) (content : Content) : Type 0 where
  pub values_are : content.values ≡ values
  pub filtered_are : (place : ℕ) → has_site content.filtered place ≡ filtered_in publication article values place

abbrev pub HoldsNew : Publication → ℕ → Option (List Value) → Option Content → Type 0
HoldsNew publication article None None = Unit {0}
HoldsNew publication article (Some values) (Some content) = Holds publication article values content
HoldsNew publication article new content = ⊥

abbrev pub key_of_change : RowChange → RowKey
key_of_change change = record { article = change.article; row = change.row }

-- the change stands behind the others
abbrev pub TakesUp : Publication → RowChange → (old new : List (Edit RowKey Content)) → Type 0
TakesUp publication change old new =
    (content : Option Content) × (new ≡ old ++ edit_to (key_of_change change) content ∷ []) × HoldsNew publication change.article change.new content

-- the article is one of the publication, and new values have its columns in number
abbrev pub fits_columns : Option Article → Option (List Value) → Type 0
fits_columns None new = ⊥
fits_columns (Some article) None = Unit {0}
fits_columns (Some article) (Some values) = length values ≡ length article.columns

abbrev pub FitsArticle : Publication → RowChange → Type 0
FitsArticle publication change = fits_columns (slice_get publication.articles change.article) change.new

abbrev pub count_if_some : {X : Type 0} → Option X → ℕ
count_if_some None = 0
count_if_some (Some x) = 1

-- how many of the rows that change live afterwards
abbrev pub living : List RowChange → ℕ
living [] = 0
living (change ∷ changes) = count_if_some change.new + living changes

-- each row stands in the list once
abbrev pub EachRowOnce : List RowChange → Type 0
EachRowOnce changes = AllPairs (λ one other. key_of_change one ≡ key_of_change other → ⊥) changes
