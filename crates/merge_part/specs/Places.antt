-- Where the last change of each row stands.
use Rattle.std.specs.Prelude.{◌≡◌, ◌<◌, ℕ, List, length, slice_index_or, Some, None}
use Rattle.std.specs.List.Sorted.{IsStrictlySortedBy}
use Rattle.std.specs.Map.{keys_of}
use Rattle.merge_table.specs.declared.edit.Edit.{Edit}
use Rattle.merge_table.specs.declared.edit.Edit.TheVariants.{Take}
use Rattle.merge_table.specs.Edits.{row_of}
use Rattle.merge_types.specs.declared.row_key.RowKey.{RowKey}
use Rattle.merge_part.specs.declared.content.Content.{Content}
use Rattle.merge_types.specs.RowKeys.{key_cmp}
use Rattle.merge_part.specs.Draft.{found, rows_in}

-- a row with a place is what the change there leaves, and a row without is what is held
pub record ArePlaces (edits : List (Edit RowKey Content)) (places : List (RowKey × ℕ)) : Type 0 where
  pub within : (key : RowKey) (place : ℕ) → found places key ≡ Some place → place < length edits
  pub changed : (held : List (RowKey × Content)) → IsStrictlySortedBy key_cmp (keys_of held) → (key : RowKey) (place : ℕ) → found places key ≡ Some place
      → rows_in held edits key ≡ row_of (slice_index_or edits place (Take key))
  pub same : (held : List (RowKey × Content)) → IsStrictlySortedBy key_cmp (keys_of held) → (key : RowKey) → found places key ≡ None → rows_in held edits key ≡ found held key
