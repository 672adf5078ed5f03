-- How much rows have.
use Rattle.std.specs.Prelude.{ℕ, List, length, sum_by}
use Rattle.merge_types.specs.Length.{row_length, row_weight}
use Rattle.merge_units.specs.declared.version.Cell.{Cell}

-- the bytes that the values of a row take where they are stored
abbrev pub stored_length : List Cell → ℕ
stored_length cells = sum_by (λ (cell : Cell). row_length cell.values) cells

-- the same for a cell, with each Null counted as 0
abbrev pub cell_weight : Cell → ℕ
cell_weight cell = row_weight cell.values

-- how many values a row has
abbrev pub value_count : List Cell → ℕ
value_count cells = sum_by (λ (cell : Cell). length cell.values) cells
