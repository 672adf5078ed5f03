-- What the parents of a value give, as a child shows.
use Rattle.std.specs.Prelude.{◌≡◌, ℕ, true, List, Option, Some}
use Rattle.merge_types.specs.declared.values.Value.{Value}
use Rattle.merge_types.specs.declared.row_key.RowKey.{RowKey}
use Rattle.merge_schema.specs.Partition.{are_joined}
use Rattle.merge_part.specs.declared.sites.Sites.{Sites}
use Rattle.merge_part.specs.declared.content.Content.{Content}
use Rattle.merge_part.specs.declared.link.Link.{Link}
use Rattle.merge_part.specs.Rule.{IsAt, value_at}

-- each link of the child article is the one with the number
abbrev pub IsOnlyLink : List Link → ℕ → ℕ → Type 0
IsOnlyLink links number article = (other : ℕ) (link : Link) → IsAt links other link → link.child ≡ article → other ≡ number

-- a row has the value at the link, passes no filter and is in these partitions
pub record Shows (rows : RowKey → Option Content) (marks : RowKey → Sites) (key : RowKey) (link : Link) (value : Value) (sites : Sites) : Type 0 where
  pub content : Content
  pub live : rows key ≡ Some content
  pub unfiltered : content.filtered.0 ≡ 0
  pub joined : are_joined value (value_at content.values link.column) ≡ true
  pub marked : sites ≡ marks key
