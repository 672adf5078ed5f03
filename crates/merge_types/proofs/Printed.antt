-- What is printed is a literal.
use Rattle.std.proofs.Common.{◌≡◌, ℕ, ◌+◌, ◌*◌, ◌/◌, ◌%◌, ◌<◌, ◌≤◌, List, [], ◌∷◌, ◌++◌, inl, inr, true, false, refl, sym, ap, ◌∙◌, nat_lt, arith, Some, ℤ}
use Rattle.std.specs.Prelude.{option_map}
use Rattle.std.specs.Char.{encode_utf8}
use Rattle.std.specs.Fmt.{digit_glyph}
use Rattle.std.specs.List.{flat_map}
use Rattle.std.specs.Str.{IsUtf8}
use Rattle.std.proofs.lemmas.Bool.{cases_eq, cases_lt}
use Rattle.std.proofs.lemmas.Bool.Decides.{nat_tests}
use Rattle.std.proofs.lemmas.List.Concat.{flat_map-cons}
use Rattle.std.proofs.lemmas.Str.{encode_ascii}
use Rattle.hex.specs.Hex.{hex_digit_value}
use Rattle.merge_types.specs.Day.{IsDay, IsDayText, day_text, year_of, month_of, date_of}
use Rattle.merge_types.specs.Quoted.{Piece, plain, short, long, IsQuoted, Spells, character_of, escaped_byte, meant, quoted, spelled}
use Rattle.merge_types.proofs.Days.{date_is}
use Rattle.merge_types.proofs.Spelling.{other_test}

-- the piece that a byte is printed as
record BytePiece (b : ℕ) : Type 0 where
  piece : Piece
  spells : spelled piece ≡ escaped_byte b
  means : meant piece ≡ Some (b ∷ [])

glyph_value : (d : ℕ) → d < 16 → hex_digit_value (digit_glyph false d) ≡ Some d
glyph_value d h = grind (arith, nat_tests)

low_test : (b n : ℕ) → b < n → nat_lt b n ≡ true
low_test b n h = grind (arith, nat_tests)

high_test : (b n : ℕ) → n ≤ b → nat_lt b n ≡ false
high_test b n h = grind (arith, nat_tests)

low_character : (b : ℕ) → b < 128 → option_map encode_utf8 (character_of b) ≡ Some (b ∷ [])
low_character b h = rw (low_test b 55296 (omega arith)) (ap (λ (bytes : List ℕ). Some bytes) (encode_ascii b h))

control_means : (b : ℕ) → b < 128 → meant (long 48 48 (digit_glyph false (b / 16)) (digit_glyph false (b % 16))) ≡ Some (b ∷ [])
control_means b h =
    let number : ((0 * 16 + 0) * 16 + b / 16) * 16 + b % 16 ≡ b = omega arith in
    rw (glyph_value (b / 16) (omega arith), glyph_value (b % 16) (omega arith)) (ap (λ (n : ℕ). option_map encode_utf8 (character_of n)) number ∙ low_character b h)

other_piece : (b : ℕ) → (b ≡ 34 → ⊥) → (b ≡ 92 → ⊥) → (b ≡ 10 → ⊥) → (b ≡ 13 → ⊥) → (b ≡ 9 → ⊥) → BytePiece b
other_piece b quote slash feed return tab =
    elim (cases_lt b 32) [
      | inl low ↦ record {
        piece = long 48 48 (digit_glyph false (b / 16)) (digit_glyph false (b % 16));
        spells = rw (other_test b 34 quote, other_test b 92 slash, other_test b 10 feed, other_test b 13 return, other_test b 9 tab, low_test b 32 low) refl;
        means = control_means b (omega arith);
      }
      | inr high ↦ elim (cases_eq b 127) [
        | inl delete ↦ rw delete (record { piece = long 48 48 55 102; spells = refl; means = control_means 127 (omega arith) })
        | inr no_delete ↦ record {
          piece = plain b;
          spells = rw (other_test b 34 quote, other_test b 92 slash, other_test b 10 feed, other_test b 13 return, other_test b 9 tab, high_test b 32 high, other_test b 127 no_delete) refl;
          means = rw (high_test b 32 high, other_test b 34 quote, other_test b 92 slash) refl;
        }
      ]
    ]

byte_piece : (b : ℕ) → BytePiece b
byte_piece b =
    elim (cases_eq b 34) [
      | inl e ↦ rw e (record { piece = short 34; spells = refl; means = refl })
      | inr quote ↦ elim (cases_eq b 92) [
        | inl e ↦ rw e (record { piece = short 92; spells = refl; means = refl })
        | inr slash ↦ elim (cases_eq b 10) [
          | inl e ↦ rw e (record { piece = short 110; spells = refl; means = refl })
          | inr feed ↦ elim (cases_eq b 13) [
            | inl e ↦ rw e (record { piece = short 114; spells = refl; means = refl })
            | inr return ↦ elim (cases_eq b 9) [
              | inl e ↦ rw e (record { piece = short 116; spells = refl; means = refl })
              | inr tab ↦ other_piece b quote slash feed return tab
            ]
          ]
        ]
      ]
    ]

Spells-escaped : (bytes : List ℕ) → Spells (flat_map escaped_byte bytes) bytes
Spells-escaped [] = ([], refl, refl)
Spells-escaped (b ∷ bytes) =
    let first = byte_piece b in
    let rest = Spells-escaped bytes in
    (first.piece ∷ rest.0, flat_map-cons spelled first.piece rest.0 ∙ ap (λ (l : List ℕ). l ++ flat_map spelled rest.0) first.spells ∙ ap (λ (l : List ℕ). escaped_byte b ++ l) rest.1 ∙ sym (flat_map-cons escaped_byte b bytes), rw (first.means, rest.2) refl)

pub IsQuoted-quoted : (bytes : List ℕ) → IsUtf8 bytes → IsQuoted (quoted bytes) bytes
unfolding quoted
IsQuoted-quoted bytes is_text = (flat_map escaped_byte bytes, refl, Spells-escaped bytes, is_text)

pub IsDayText-day_text : (day : ℤ) → IsDay day → IsDayText (day_text day) day
unfolding day_text
IsDayText-day_text day h = record { year = year_of day; month = month_of day; date = date_of day; spelled = refl; is_date = date_is day h }
