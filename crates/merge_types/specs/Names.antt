-- Names.
use Rattle.std.specs.Char.{is_ascii_alphabetic, is_ascii_alphanumeric}
use Rattle.std.specs.List.{list_all}
use Rattle.std.specs.Prelude.{ℕ, List, [], ◌∷◌, length, Bool, false, if◌then◌else◌, nat_le, ◌==◌, ◌||◌, ◌&&◌}
use Rattle.merge_types.specs.Limits.{name_limit}
use Rattle.merge_types.specs.Quoted.{quoted}

abbrev pub begins_name : ℕ → Bool
begins_name byte = is_ascii_alphabetic byte || (byte == 95)

abbrev pub continues_name : ℕ → Bool
continues_name byte = is_ascii_alphanumeric byte || (byte == 95)

-- a letter or `_`, and then letters, digits or `_`, up to the limit
abbrev pub is_name_text : List ℕ → Bool
is_name_text [] = false
is_name_text (first ∷ rest) = (begins_name first && list_all continues_name rest) && nat_le (length (first ∷ rest)) name_limit

-- a key or a name as notes show it: every text that is no name in quotes
abbrev pub shown_text : List ℕ → List ℕ
shown_text text = if is_name_text text then text else quoted text
