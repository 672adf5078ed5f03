-- Columns by their names.
use Rattle.std.specs.Prelude.{ℕ, Bool, false, not, nat_eq, nat_le, List, length, take_while, position, Option}
use Rattle.std.specs.Cmp.Lexicographic.{pointwise}
use Rattle.merge_types.specs.declared.values.Column.{Column}
use Rattle.merge_filter.specs.declared.word.Word.{Word}
use Rattle.merge_filter.specs.declared.word.Word.TheVariants as w

abbrev pub is_named : List ℕ → Column → Bool
is_named name column = pointwise nat_eq column.name name

-- the place of the first column with the name, and the number of columns where none has it
abbrev pub column_of : List Column → List ℕ → ℕ
column_of columns name = length (take_while (λ column. not (is_named name column)) columns)

abbrev pub is_unknown : List Column → Word → Bool
is_unknown columns (w.Name name) = nat_le (length columns) (column_of columns name)
is_unknown columns word = false

-- the first word that is a name of no column
abbrev pub unknown_name : List Column → List Word → Option ℕ
unknown_name columns words = position (is_unknown columns) words
