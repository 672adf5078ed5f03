-- The bytes of a text in quotes.
use Rattle.std.specs.Prelude.{ℕ, ◌==◌, List, [], ◌∷◌, Option, Some, None, option_map, option_and_then, if◌then◌else◌}

-- the bytes of a text from its body, which stands behind the opening quote
abbrev pub content_of : List ℕ → Option (List ℕ)
content_of [] = None
content_of (c ∷ []) = if c == 39 then Some [] else None
content_of (c ∷ d ∷ cs) =
    if c == 39 then (if d == 39 then option_map (λ bytes. 39 ∷ bytes) (content_of cs) else None)
    else option_map (λ bytes. c ∷ bytes) (content_of (d ∷ cs))

abbrev pub behind_quote : List ℕ → Option (List ℕ)
behind_quote [] = None
behind_quote (c ∷ cs) = if c == 39 then Some cs else None

abbrev pub quoted_content : List ℕ → Option (List ℕ)
quoted_content piece = option_and_then content_of (behind_quote piece)
