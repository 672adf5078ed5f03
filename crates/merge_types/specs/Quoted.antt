-- Texts in quotes, with escapes.
use Rattle.std.specs.Prelude.{◌≡◌, ℕ, ◌+◌, ◌*◌, ◌/◌, ◌%◌, List, [], ◌∷◌, ◌++◌, Option, Some, None, option_map, option_and_then, false, codes, nat_lt, ◌==◌, ◌||◌, if◌then◌else◌, IsUtf8, encode_utf8, encode_utf8_all}
use Rattle.hex.specs.Hex.{hex_digit_value}
use Rattle.std.specs.List.{flat_map}
use Rattle.std.specs.Fmt.{digit_glyph}

-- a control character as `\u00` and two hexadecimal digits
abbrev pub control_escape : ℕ → List ℕ
control_escape c = codes "\\u00" ++ (digit_glyph false (c / 16) ∷ digit_glyph false (c % 16) ∷ [])

-- what stands for a byte of the text
abbrev pub escaped_byte : ℕ → List ℕ
escaped_byte b =
    if b == 34 then codes "\\\""
    else if b == 92 then codes "\\\\"
    else if b == 10 then codes "\\n"
    else if b == 13 then codes "\\r"
    else if b == 9 then codes "\\t"
    else if nat_lt b 32 || (b == 127) then control_escape b
    else b ∷ []

-- what stands for a character of the text, whose bytes pass as they are from U+0080 on
abbrev pub escaped_character : ℕ → List ℕ
escaped_character c = if nat_lt c 128 then escaped_byte c else encode_utf8 c

-- the text in quotes, by its characters
abbrev pub IsEscaped : List ℕ → List ℕ → Type 0
IsEscaped text bytes = (cs : List ℕ) × (encode_utf8_all cs ≡ bytes) × (text ≡ 34 ∷ (flat_map escaped_character cs ++ 34 ∷ []))

-- the text of these bytes, in quotes
unfoldable pub quoted : List ℕ → List ℕ
quoted bytes = 34 ∷ (flat_map escaped_byte bytes ++ 34 ∷ [])

-- A piece between the quotes: a byte as it is, a backslash and a letter, or `\u` and four digits.
pub data Piece : Type 0 where
  plain : (byte : ℕ) → Piece
  short : (letter : ℕ) → Piece
  long : (first second third fourth : ℕ) → Piece

abbrev pub spelled : Piece → List ℕ
spelled (plain byte) = byte ∷ []
spelled (short letter) = 92 ∷ letter ∷ []
spelled (long first second third fourth) = 92 ∷ 117 ∷ first ∷ second ∷ third ∷ fourth ∷ []

-- what a letter stands for behind a backslash: a quote, a backslash, U+000A, U+000D or U+0009
abbrev pub letter_meaning : ℕ → Option ℕ
letter_meaning letter =
    if letter == 34 then Some 34
    else if letter == 92 then Some 92
    else if letter == 110 then Some 10
    else if letter == 114 then Some 13
    else if letter == 116 then Some 9
    else None

-- no control character below U+0020, quote or backslash stands as it is
abbrev pub plain_meaning : ℕ → Option ℕ
plain_meaning byte = if nat_lt byte 32 || (byte == 34) || (byte == 92) then None else Some byte

-- no surrogate is a character
abbrev pub character_of : ℕ → Option ℕ
character_of code = if nat_lt code 55296 || nat_lt 57343 code then Some code else None

-- the character of four hexadecimal digits, in either case
abbrev pub digits_meaning : ℕ → ℕ → ℕ → ℕ → Option ℕ
digits_meaning first second third fourth =
    option_and_then
    (λ w. option_and_then
    (λ x. option_and_then
    (λ y. option_and_then
    (λ z. character_of (((w * 16 + x) * 16 + y) * 16 + z))
    (hex_digit_value fourth))
    (hex_digit_value third))
    (hex_digit_value second))
    (hex_digit_value first)

-- the bytes that a piece means, and none where it has no meaning
abbrev pub meant : Piece → Option (List ℕ)
meant (plain byte) = option_map (λ b. b ∷ []) (plain_meaning byte)
meant (short letter) = option_map (λ b. b ∷ []) (letter_meaning letter)
meant (long first second third fourth) = option_map encode_utf8 (digits_meaning first second third fourth)

-- what pieces mean together
abbrev pub all_meant : List Piece → Option (List ℕ)
all_meant [] = Some []
all_meant (piece ∷ pieces) = option_and_then (λ front. option_map (λ rest. front ++ rest) (all_meant pieces)) (meant piece)

-- the text between the quotes is of pieces that mean the bytes
abbrev pub Spells : List ℕ → List ℕ → Type 0
Spells inner bytes = (pieces : List Piece) × (flat_map spelled pieces ≡ inner) × (all_meant pieces ≡ Some bytes)

-- the literal is of a text with these bytes
abbrev pub IsQuoted : List ℕ → List ℕ → Type 0
IsQuoted text bytes = (inner : List ℕ) × (text ≡ 34 ∷ (inner ++ 34 ∷ [])) × Spells inner bytes × IsUtf8 bytes

-- The first piece by its bytes: what it means, and what is behind it.
abbrev pub with_rest : Option (List ℕ) → List ℕ → Option (List ℕ × List ℕ)
with_rest meaning rest = option_map (λ bytes. (bytes, rest)) meaning

unfoldable pub long_at : List ℕ → Option (List ℕ × List ℕ)
long_at (first ∷ second ∷ third ∷ fourth ∷ rest) = with_rest (meant (long first second third fourth)) rest
long_at inner = None

unfoldable pub escape_at : List ℕ → Option (List ℕ × List ℕ)
escape_at [] = None
escape_at (letter ∷ rest) = if letter == 117 then long_at rest else with_rest (meant (short letter)) rest

unfoldable pub piece_at : List ℕ → Option (List ℕ × List ℕ)
piece_at [] = None
piece_at (byte ∷ rest) = if byte == 92 then escape_at rest else with_rest (meant (plain byte)) rest
