-- Words of a line, as they are added one by one.
use Rattle.std.specs.Prelude.{ℕ, List, [], ◌∷◌, Option, Some, None, option_map, slice_get, unwrap_or}
use Rattle.std.specs.List.{flat_map}
use Rattle.std.specs.Fmt.{decimal}
use Rattle.merge_types.specs.Literal.{printed}
use Rattle.merge_types.specs.declared.values.Column.{Column}
use Rattle.merge_types.specs.declared.values.Value.{Value}
use Rattle.merge_types.specs.Rows.{row_text}
use Rattle.merge_units.specs.declared.version.Cell.{Cell}
use Rattle.merge_conflict.specs.Kinds.{number_of_kind}
use Rattle.merge_conflict.specs.declared.row.ConflictRow.{ConflictRow}
use Rattle.merge_model.specs.Script.Text.{Names, verdict_text}

-- a blank, and a word
abbrev pub spaced_word : List ℕ → List ℕ
spaced_word word = 32 ∷ word

-- words with a blank before each
abbrev pub spaced_words : List (List ℕ) → List ℕ
spaced_words words = flat_map spaced_word words

-- the first of some words
abbrev pub first_word : List (List ℕ) → List ℕ
first_word [] = []
first_word (word ∷ more) = word

-- the name of the column at a place
abbrev pub name_in : List Column → ℕ → List ℕ
name_in columns place = unwrap_or (option_map (λ (column : Column). column.name) (slice_get columns place)) []

-- what a column is called: by its name, or by its place where no columns are given
abbrev pub name_of_column : Option (List Column) → ℕ → List ℕ
name_of_column None = decimal
name_of_column (Some columns) = name_in columns

-- a blank, and a value
abbrev pub value_word : Value → List ℕ
value_word value = 32 ∷ printed value

-- the values of a cell, and of cells, with a blank before each
abbrev pub cell_text : Cell → List ℕ
cell_text cell = flat_map value_word cell.values

abbrev pub cells_text : List Cell → List ℕ
cells_text cells = flat_map cell_text cells

-- the number of a conflict and its row
abbrev pub lost_words : Names → ConflictRow → List (List ℕ)
lost_words names row = decimal row.number ∷ names.article row.article ∷ row_text row.row.0 ∷ []

-- why, from where and when a version lost
abbrev pub reason_words : ConflictRow → List (List ℕ)
reason_words row = decimal (number_of_kind row.kind) ∷ decimal row.from.0 ∷ verdict_text row.verdict ∷ decimal row.moment.0 ∷ []
