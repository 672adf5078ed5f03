-- Which rows stand in a partition, given the rows that they follow.
use Rattle.std.specs.Prelude.{◌≡◌, ◌<◌, ◌⊎◌, ℕ, Bool, true, false, ◌&&◌, List, length, slice_index_or, Option, None, Some}
use Rattle.merge_types.specs.declared.identifiers.RowId.{RowId}
use Rattle.merge_types.specs.declared.values.Value.{Value}
use Rattle.merge_types.specs.declared.values.Value.TheVariants.{Null}
use Rattle.merge_types.specs.declared.row_key.RowKey.{RowKey}
use Rattle.merge_part.specs.declared.sites.Sites.{Sites}
use Rattle.merge_part.specs.declared.content.Content.{Content}
use Rattle.merge_part.specs.declared.link.Link.{Link}
use Rattle.merge_part.specs.Sites.{has_site}
use Rattle.merge_schema.specs.Partition.{are_joined}

abbrev pub is_null : Value → Bool
is_null Null = true
is_null value = false

abbrev pub value_at : List Value → ℕ → Value
value_at values column = slice_index_or values column Null

-- the value by which children follow the row, and Null for a row that is not live
abbrev pub parent_value : Link → Option Content → Value
parent_value link None = Null
parent_value link (Some content) = value_at content.values link.parent_column

-- the value in a column, and Null for a row that is not live
abbrev pub content_value : Option Content → ℕ → Value
content_value None column = Null
content_value (Some content) column = value_at content.values column

-- whether a child with the value is in a partition by a parent that holds this and is in these partitions
abbrev pub gives : Value → Link → Option Content → Sites → ℕ → Bool
gives value link held sites place = are_joined value (parent_value link held) && has_site sites place

abbrev pub parent_of : Link → RowId → RowKey
parent_of link row = record { article = link.parent; row = row }

-- the same for the parent with this identifier
abbrev pub row_gives : (RowKey → Option Content) → (RowKey → Sites) → Value → Link → ℕ → RowId → Bool
row_gives rows marks value link place row = gives value link (rows (parent_of link row)) (marks (parent_of link row)) place

abbrev pub IsAt : List Link → ℕ → Link → Type 0
IsAt links number link = (number < length links) × (slice_index_or links number link ≡ link)

-- a parent by which the row is in the partition of the subscriber at the place
pub record Parent (links : List Link) (rows : RowKey → Option Content) (marks : RowKey → Sites) (key : RowKey) (content : Content) (place : ℕ) : Type 0 where
  pub number : ℕ
  pub link : Link
  pub parent : RowKey
  pub among : IsAt links number link
  pub below : link.child ≡ key.article
  pub above : parent.article ≡ link.parent
  pub given : gives (value_at content.values link.column) link (rows parent) (marks parent) place ≡ true

-- why a row is in the partition of the subscriber at the place
abbrev pub Reason : List Link → (RowKey → Option Content) → (RowKey → Sites) → RowKey → Content → ℕ → Type 0
Reason links rows marks key content place = (has_site content.filtered place ≡ true) ⊎ Parent links rows marks key content place

-- the row is in exactly the partitions whose filter it passes or that a parent gives it
pub record Meets (links : List Link) (rows : RowKey → Option Content) (marks : RowKey → Sites) (key : RowKey) : Type 0 where
  pub reason : (place : ℕ) → has_site (marks key) place ≡ true → (content : Content) × (rows key ≡ Some content) × Reason links rows marks key content place
  pub reached : (place : ℕ) (content : Content) → rows key ≡ Some content → Reason links rows marks key content place → has_site (marks key) place ≡ true
