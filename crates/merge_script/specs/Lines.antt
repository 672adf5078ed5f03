-- The lines of a text.
use Rattle.std.specs.List.{slice_split}
use Rattle.std.specs.Prelude.{ℕ, List, Bool, ◌==◌}
use Rattle.std.specs.Str.Lines.{lines_of_parts}

abbrev pub is_line_feed : ℕ → Bool
is_line_feed byte = byte == 10

-- what stands between the line feeds of a text
abbrev pub parts_of : List ℕ → List (List ℕ)
parts_of text = slice_split is_line_feed text

-- a line ends with a line feed, and loses a carriage return before it; the last line may lack its end
abbrev pub lines_of : List ℕ → List (List ℕ)
lines_of text = lines_of_parts (parts_of text)
