-- What a site sends.
use Rattle.std.specs.BTreeMap.{is_at}
use Rattle.std.specs.List.{list_any}
use Rattle.std.specs.List.Sorted.{IsStrictlySortedBy}
use Rattle.std.specs.Map.{keys_of}
use Rattle.std.specs.Option.{option_and_then}
use Rattle.std.specs.Prelude.{◌≡◌, ◌==◌, ◌+◌, ◌&&◌, ℕ, Bool, false, List, Option, filter_map, length, nat_le, nat_lt, option_map, unwrap_or}
use Rattle.merge_types.specs.RowKeys.{key_cmp}
use Rattle.merge_types.specs.declared.row_key.RowKey.{RowKey}
use Rattle.merge_units.specs.declared.site_row.SubscriberRow.{SubscriberRow}
use Rattle.merge_gens.specs.declared.index.IndexEntry.{IndexEntry}
use Rattle.merge_batch.specs.declared.request.UploadItem.{UploadItem}
use Rattle.merge_model.specs.Judge.ByNumbers.{changed_row_between, last_between}
use Rattle.merge_model.specs.Tables.Keys.{row_at}
use Rattle.merge_sub.specs.Held.{kept_by}

-- whether a row keeps a generation from one on, below another
abbrev pub is_in : ℕ → ℕ → ℕ → Bool
is_in first end generation = nat_le first generation && nat_lt generation end

abbrev pub keeps_in : ℕ → ℕ → Option SubscriberRow → Bool
keeps_in first end row = list_any (is_in first end) (kept_by row)

-- the rows that do, by article and row, each once
pub record AreKeeping (rows : List (RowKey × SubscriberRow)) (first end : ℕ) (keys : List RowKey) : Type 0 where
  pub ordered : IsStrictlySortedBy key_cmp (keys_of rows)
  pub ascending : IsStrictlySortedBy key_cmp keys
  pub each : (key : RowKey) → list_any (is_at (key_cmp key)) keys ≡ keeps_in first end (row_at rows key)

-- the rows that keep one behind `from`, up to `to`
abbrev pub AreChanged : List (RowKey × SubscriberRow) → ℕ → ℕ → List RowKey → Type 0
AreChanged rows from to keys = AreKeeping rows (from + 1) (to + 1) keys

-- how many of them are changed between
abbrev pub changed_count : List (RowKey × SubscriberRow) → ℕ → ℕ → ℕ
changed_count rows from to = length (filter_map (changed_row_between from to) rows)

-- what is sent of the row at a key
abbrev pub row_item : RowKey → SubscriberRow → ℕ → UploadItem
row_item key row generation = record { article = key.article; row = key.row; generation = generation; version = row.version }

abbrev pub item_of : ℕ → ℕ → RowKey → SubscriberRow → Option UploadItem
item_of from to key row = option_map (row_item key row) (last_between from to row.generations)

abbrev pub item_at : List (RowKey × SubscriberRow) → ℕ → ℕ → RowKey → Option UploadItem
item_at rows from to key = option_and_then (item_of from to key) (row_at rows key)

-- whether an entry of the index, which stands at the number behind its generation, is that of the last one between that its row keeps
abbrev pub is_last : List (RowKey × SubscriberRow) → ℕ → ℕ → IndexEntry → Bool
is_last rows from to entry = unwrap_or (option_map (λ (last : ℕ). entry.generation == last + 1) (last_between from to (kept_by (row_at rows entry.key)))) false
