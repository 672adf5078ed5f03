-- The publication and the script of an input.
use Rattle.std.specs.Cmp.Lexicographic.{pointwise}
use Rattle.std.specs.List.{join_with_byte, list_any}
use Rattle.std.specs.Prelude.{◌≡◌, ◌⊎◌, ℕ, List, [], ◌∷◌, ◌++◌, Bool, true, false, nat_eq, codes, if◌then◌else◌}
use Rattle.std.specs.Str.Lines.{strip_carriage_return}
use Rattle.merge_script.specs.Lines.{parts_of}

-- a line of three dashes; a carriage return at its end is passed over
abbrev pub is_bar : List ℕ → Bool
is_bar line = pointwise nat_eq (strip_carriage_return line) (codes "---")

-- the text before the first bar, of an input that was cut at its line feeds
abbrev pub text_before_bar : List (List ℕ) → List ℕ
text_before_bar [] = []
text_before_bar (part ∷ []) = if is_bar part then [] else part
text_before_bar (part ∷ next ∷ more) = if is_bar part then [] else part ++ 10 ∷ text_before_bar (next ∷ more)

-- the parts behind the first bar
abbrev pub parts_behind_bar : List (List ℕ) → List (List ℕ)
parts_behind_bar [] = []
parts_behind_bar (part ∷ more) = if is_bar part then more else parts_behind_bar more

-- all bytes before the first bar, and the whole input where there is none
abbrev pub publication_of : List ℕ → List ℕ
publication_of input = text_before_bar (parts_of input)

-- all bytes behind the first bar
abbrev pub script_of : List ℕ → List ℕ
script_of input = join_with_byte 10 (parts_behind_bar (parts_of input))

-- some line of a text is the bar
abbrev pub has_bar : List ℕ → Bool
has_bar text = list_any is_bar (parts_of text)

-- a bar with its line feed, which only the last line of an input may lack
abbrev pub IsBarLine : List ℕ → List ℕ → Type 0
IsBarLine line behind = (bar : List ℕ) × (is_bar bar ≡ true) × ((line ≡ bar ++ 10 ∷ []) ⊎ ((line ≡ bar) × (behind ≡ [])))

-- nothing, or a text that ends with a line feed
abbrev pub IsWholeLines : List ℕ → Type 0
IsWholeLines text = (text ≡ []) ⊎ ((front : List ℕ) × (text ≡ front ++ 10 ∷ []))

-- the input is whole lines of which none is the bar, a bar, and the script; or it has no bar, and no script
abbrev pub IsCut : List ℕ → List ℕ → List ℕ → Type 0
IsCut input publication script =
    ((line : List ℕ) × (input ≡ publication ++ (line ++ script)) × IsBarLine line script × IsWholeLines publication × (has_bar publication ≡ false))
    ⊎ ((input ≡ publication) × (script ≡ []) × (has_bar input ≡ false))
