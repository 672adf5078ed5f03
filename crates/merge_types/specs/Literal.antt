-- Values as literals.
use Rattle.std.specs.Prelude.{◌≡◌, ℕ, ℤ, List, ◌∷◌, Bool, true, false, Ok, FitsSigned, codes}
use Rattle.std.specs.Fmt.{signed_decimal}
use Rattle.std.specs.Int.{w64}
use Rattle.hex.specs.Hex.{decode_of, encode_lower}
use Rattle.merge_types.specs.declared.values.Value.{Value}
use Rattle.merge_types.specs.declared.values.Value.TheVariants.{Null, Int, Bit, Text, Day, Guid, Bytes}
use Rattle.merge_types.specs.Day.{IsDay, IsDayText, day_text}
use Rattle.merge_types.specs.Quoted.{IsQuoted, quoted}
use Rattle.merge_types.specs.Guid.{IsGuidText, guid_text}

-- a value that a row may hold: its day is one of the calendar's
abbrev pub IsProper : Value → Type 0
IsProper (Day day) = IsDay day
IsProper value = Unit {0}

abbrev pub bit_text : Bool → List ℕ
bit_text true = codes "true"
bit_text false = codes "false"

-- `x` and two digits for each byte
abbrev pub bytes_text : List ℕ → List ℕ
bytes_text bytes = 120 ∷ encode_lower bytes

-- the literal that a value is printed as
abbrev pub printed : Value → List ℕ
printed Null = codes "null"
printed (Int number) = signed_decimal number
printed (Bit bit) = bit_text bit
printed (Text bytes) = quoted bytes
printed (Day day) = day_text day
printed (Guid number) = guid_text number
printed (Bytes bytes) = bytes_text bytes

-- a number of 64 bits in decimal
abbrev pub IsIntText : List ℕ → ℤ → Type 0
IsIntText text number = FitsSigned w64 number × (text ≡ signed_decimal number)

-- `x` and pairs of digits, in either case
abbrev pub IsBytesText : List ℕ → List ℕ → Type 0
IsBytesText text bytes = (digits : List ℕ) × (text ≡ 120 ∷ digits) × (decode_of digits ≡ Ok bytes)

-- the text is a literal of the value
abbrev pub IsLiteral : List ℕ → Value → Type 0
IsLiteral text Null = text ≡ codes "null"
IsLiteral text (Int number) = IsIntText text number
IsLiteral text (Bit bit) = text ≡ bit_text bit
IsLiteral text (Text bytes) = IsQuoted text bytes
IsLiteral text (Day day) = IsDayText text day
IsLiteral text (Guid number) = IsGuidText text number
IsLiteral text (Bytes bytes) = IsBytesText text bytes
