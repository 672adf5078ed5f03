-- The words of a line.
use Rattle.std.specs.List.{onto_first}
use Rattle.std.specs.Prelude.{ℕ, List, [], ◌∷◌, length, Bool, true, false, nat_lt, ◌==◌, ◌||◌, ◌&&◌, filter, slice_index, if◌then◌else◌}
use Rattle.std.specs.Str.{is_utf8}
use Rattle.merge_script.specs.declared.words.Place.{Place}
use Rattle.merge_script.specs.declared.words.Place.TheVariants.{Outside, Inside, Escaped}

abbrev pub is_blank : ℕ → Bool
is_blank byte = (byte == 32) || (byte == 9)

-- the place behind a byte: a quote begins or ends a quoted part, but not behind a backslash inside of it
abbrev pub place_behind : Place → ℕ → Place
place_behind Outside byte = if byte == 34 then Inside else Outside
place_behind Inside byte = if byte == 34 then Outside else (if byte == 92 then Escaped else Inside)
place_behind Escaped byte = Inside

-- a blank parts words where it stands outside of quotes
abbrev pub is_parting : Place → ℕ → Bool
is_parting Outside byte = is_blank byte
is_parting Inside byte = false
is_parting Escaped byte = false

-- what stands between the parting blanks of a text that begins at a place
abbrev pub parts_from : Place → List ℕ → List (List ℕ)
parts_from place [] = [] ∷ []
parts_from place (byte ∷ more) = if is_parting place byte then [] ∷ parts_from Outside more else onto_first byte (parts_from (place_behind place byte) more)

-- a part before words, where it is not empty
abbrev pub with_word : List ℕ → List (List ℕ) → List (List ℕ)
with_word part words = if nat_lt 0 (length part) then part ∷ words else words

-- the words of a line
abbrev pub words_of : List ℕ → List (List ℕ)
words_of line = filter (λ part. nat_lt 0 (length part)) (parts_from Outside line)

-- no word, or a first word that begins with #
abbrev pub is_quiet_by : List (List ℕ) → Bool
is_quiet_by [] = true
is_quiet_by (word ∷ words) = slice_index word 0 == 35

-- the line is a text that asks for nothing
abbrev pub is_quiet_line : List ℕ → Bool
is_quiet_line line = is_utf8 line && is_quiet_by (words_of line)
