-- The live rows that a membership holds.
use Rattle.std.specs.Prelude.{List, [], ◌∷◌, map, Option, None, Some}
use Rattle.std.specs.Map.{remove_entry}
use Rattle.std.specs.BTreeMap.{is_at, insert_entry}
use Rattle.merge_types.specs.declared.values.Value.{Value}
use Rattle.merge_schema.specs.Partition.{LiveRow}
use Rattle.merge_types.specs.declared.row_key.RowKey.{RowKey}
use Rattle.merge_part.specs.declared.content.Content.{Content}
use Rattle.merge_part.specs.declared.change.RowChange.{RowChange}
use Rattle.merge_types.specs.RowKeys.{key_cmp}
use Rattle.merge_part.specs.Taking.{key_of_change}

-- rows with their values, by article and row
abbrev pub Live : Type 0
Live = List (RowKey × List Value)

abbrev pub values_held : RowKey × Content → RowKey × List Value
values_held entry = (entry.0, entry.1.values)

abbrev pub live_of : List (RowKey × Content) → Live
live_of rows = map values_held rows

-- the rows after this one holds these values, or is not live any more
abbrev pub live_with : Live → RowKey → Option (List Value) → Live
live_with live key None = remove_entry (is_at (key_cmp key)) live
live_with live key (Some values) = insert_entry key_cmp live key values

-- the rows after one change, and after all of them in order
abbrev pub live_after : Live → RowChange → Live
live_after live change = live_with live (key_of_change change) change.new

abbrev pub live_after_all : Live → List RowChange → Live
live_after_all live [] = live
live_after_all live (change ∷ changes) = live_after_all (live_after live change) changes

-- the same as the definition of a partition takes them
abbrev pub live_row : RowKey × List Value → LiveRow
live_row entry = record { article = entry.0.article; row = entry.0.row; values = entry.1 }

abbrev pub live_rows : Live → List LiveRow
live_rows live = map live_row live
