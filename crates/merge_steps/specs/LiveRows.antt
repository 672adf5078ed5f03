-- The live rows of the tables, as a membership keeps them.
use Rattle.std.specs.Prelude.{List, Option, Some, None, filter_map, option_map, flat_map}
use Rattle.merge_types.specs.declared.row_key.RowKey.{RowKey as Key}
use Rattle.merge_types.specs.declared.values.Value.{Value}
use Rattle.merge_units.specs.declared.site_row.PublisherRow.{PublisherRow}
use Rattle.merge_units.specs.declared.version.Body.{Body}
use Rattle.merge_units.specs.declared.version.Body.TheVariants.{Dead, Live}
use Rattle.merge_units.specs.declared.version.Cell.{Cell}
use Rattle.merge_part.specs.Live.{Live as LiveList}

-- the values of a live row
abbrev pub values_in : Body → Option (List Value)
values_in (Dead top) = None
values_in (Live cells) = Some (flat_map (λ (cell : Cell). cell.values) cells)

abbrev pub live_pair : Key × PublisherRow → Option (Key × List Value)
live_pair row = option_map (λ (values : List Value). (row.0, values)) (values_in row.1.version.body)

abbrev pub live_pairs : List (Key × PublisherRow) → LiveList
live_pairs rows = filter_map live_pair rows
