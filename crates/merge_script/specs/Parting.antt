-- What the words of a line are: with the blanks between them, in order, they are the line.
use Rattle.std.specs.List.{list_all}
use Rattle.std.specs.Prelude.{◌≡◌, ℕ, ◌<◌, List, [], ◌∷◌, ◌++◌, length, Bool, true, ◌&&◌, not, ⊤}
use Rattle.merge_script.specs.declared.words.Place.{Place}
use Rattle.merge_script.specs.declared.words.Place.TheVariants.{Outside}
use Rattle.merge_script.specs.Words.{is_blank, is_parting, place_behind}

-- the place behind a text that begins at a place
abbrev pub place_after : Place → List ℕ → Place
place_after place [] = place
place_after place (byte ∷ more) = place_after (place_behind place byte) more

-- each blank of the text stands inside of quotes
abbrev pub is_unparted : Place → List ℕ → Bool
is_unparted place [] = true
is_unparted place (byte ∷ more) = not (is_parting place byte) && is_unparted (place_behind place byte) more

-- a word is not empty, and has no blank outside of its quotes
abbrev pub IsWord : List ℕ → Type 0
IsWord word = (0 < length word) × (is_unparted Outside word ≡ true)

-- a word that ends at a place ends there: nothing follows, or a blank outside of its quotes
abbrev pub EndsBefore : Place → List ℕ → Type 0
EndsBefore place [] = ⊤
EndsBefore place (byte ∷ more) = is_parting place byte ≡ true

-- blanks, and each word with the blanks behind it, are the line
abbrev pub IsParted : List ℕ → List (List ℕ) → Type 0
IsParted line [] = list_all is_blank line ≡ true
IsParted line (word ∷ words) = (blanks rest : List ℕ) × (line ≡ blanks ++ (word ++ rest)) × (list_all is_blank blanks ≡ true) × IsWord word × EndsBefore (place_after Outside word) rest × IsParted rest words
