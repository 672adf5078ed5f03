-- What other rows give the children of a row.
use Rattle.std.specs.Prelude.{◌≡◌, ◌⊎◌, ◌||◌, ℕ, true, false, Option}
use Rattle.std.specs.BTreeMap.{is_at}
use Rattle.merge_types.specs.declared.identifiers.RowId.{RowId}
use Rattle.merge_types.specs.declared.values.Value.{Value}
use Rattle.merge_types.specs.declared.row_key.RowKey.{RowKey}
use Rattle.merge_types.specs.RowKeys.{key_cmp}
use Rattle.merge_part.specs.declared.sites.Sites.{Sites}
use Rattle.merge_part.specs.declared.content.Content.{Content}
use Rattle.merge_part.specs.declared.link.Link.{Link}
use Rattle.merge_part.specs.Sites.{has_site}
use Rattle.merge_part.specs.Rule.{parent_of, row_gives}

-- a row that is not this one gives a child with the value its place by the link
abbrev pub AnotherGives : (RowKey → Option Content) → (RowKey → Sites) → RowKey → Link → Value → ℕ → Type 0
AnotherGives rows marks key link value place = (row : RowId) × (is_at (key_cmp key) (parent_of link row) ≡ false) × (row_gives rows marks value link place row ≡ true)

-- so it is in the partition of each of these subscribers
abbrev pub IsCovered : (RowKey → Option Content) → (RowKey → Sites) → RowKey → Sites → Link → Value → Type 0
IsCovered rows marks key sites link value = (place : ℕ) → has_site sites place ≡ true → AnotherGives rows marks key link value place

-- the subscribers of both sets
abbrev pub IsUnion : (one other both : Sites) → Type 0
IsUnion one other both = (place : ℕ) → has_site both place ≡ (has_site one place || has_site other place)
