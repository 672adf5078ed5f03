-- Texts in UTF-8.
use Rattle.std.proofs.Common.{◌≡◌, ℕ, suc, ◌<◌, ◌≤◌, List, [], ◌∷◌, ◌++◌, inl, inr, refl, sym, ap, ◌∙◌, subst, length, get_or, arith, nat_lt, true, false}
use Rattle.std.specs.Str.{IsUtf8, IsAscii, encode_utf8_all}
use Rattle.std.specs.Char.{encode_utf8}
use Rattle.std.specs.List.{flat_map}
use Rattle.std.proofs.lemmas.Bool.{cases_lt}
use Rattle.std.proofs.lemmas.Bool.Decides.{nat_tests}
use Rattle.std.proofs.lemmas.Grind.{flat_map-append}
use Rattle.std.proofs.lemmas.List.{append-nil}
use Rattle.std.proofs.lemmas.List.Concat.{flat_map-cons}
use Rattle.std.proofs.lemmas.Str.{IsUtf8-from_ascii, encode_ascii, inside_one}
use Rattle.merge_types.specs.Quoted.{IsEscaped, escaped_byte, escaped_character, quoted}

pub IsUtf8-same_ascii : {xs ys : List ℕ} → xs ≡ ys → IsAscii ys → IsUtf8 xs
IsUtf8-same_ascii e a = subst IsUtf8 (sym e) (IsUtf8-from_ascii _ a)

-- each byte of a character from U+0080 on is 128 or more
encode_utf8-high : (c k : ℕ) → 128 ≤ c → k < length (encode_utf8 c) → 128 ≤ get_or (encode_utf8 c) k 0
encode_utf8-high c k high within =
    elim (cases_lt (get_or (encode_utf8 c) k 0) 128) [
      | inl low ↦ absurd (omega (arith, inside_one c [] (encode_utf8 c) k (sym (append-nil (encode_utf8 c))) within low))
      | inr at_least ↦ at_least
    ]

escaped_byte-high : (b : ℕ) → 128 ≤ b → escaped_byte b ≡ b ∷ []
escaped_byte-high b high = grind (arith, nat_tests)

flat_map-escaped_byte-high : (bytes : List ℕ) → ((k : ℕ) → k < length bytes → 128 ≤ get_or bytes k 0) → flat_map escaped_byte bytes ≡ bytes
flat_map-escaped_byte-high [] high = refl
flat_map-escaped_byte-high (b ∷ bytes) high =
    flat_map-cons escaped_byte b bytes
    ∙ ap (λ (front : List ℕ). front ++ flat_map escaped_byte bytes) (escaped_byte-high b (high 0 (omega arith)))
    ∙ ap (λ (rest : List ℕ). b ∷ rest) (flat_map-escaped_byte-high bytes (λ k within. high (suc k) (omega arith)))

low_test : (c : ℕ) → c < 128 → nat_lt c 128 ≡ true
low_test c low = grind (arith, nat_tests)

high_test : (c : ℕ) → 128 ≤ c → nat_lt c 128 ≡ false
high_test c high = grind (arith, nat_tests)

escaped_character-low : (c : ℕ) → c < 128 → escaped_byte c ≡ escaped_character c
escaped_character-low c low = rw (low_test c low) refl

escaped_character-high : (c : ℕ) → 128 ≤ c → encode_utf8 c ≡ escaped_character c
escaped_character-high c high = rw (high_test c high) refl

-- a character's escape is that of its bytes
escaped_character-bytes : (c : ℕ) → flat_map escaped_byte (encode_utf8 c) ≡ escaped_character c
escaped_character-bytes c =
    elim (cases_lt c 128) [
      | inl low ↦ ap (flat_map escaped_byte) (encode_ascii c low) ∙ flat_map-cons escaped_byte c [] ∙ append-nil (escaped_byte c) ∙ escaped_character-low c low
      | inr high ↦ flat_map-escaped_byte-high (encode_utf8 c) (λ k within. encode_utf8-high c k high within) ∙ escaped_character-high c high
    ]

pub flat_map-escaped_character : (cs : List ℕ) → flat_map escaped_character cs ≡ flat_map escaped_byte (encode_utf8_all cs)
flat_map-escaped_character [] = refl
flat_map-escaped_character (c ∷ cs) =
    flat_map-cons escaped_character c cs
    ∙ ap (λ (front : List ℕ). front ++ flat_map escaped_character cs) (sym (escaped_character-bytes c))
    ∙ ap (λ (rest : List ℕ). flat_map escaped_byte (encode_utf8 c) ++ rest) (flat_map-escaped_character cs)
    ∙ sym (flat_map-append escaped_byte (encode_utf8 c) (encode_utf8_all cs))

-- one character more behind the quote
pub escaped-more : (cs : List ℕ) (c : ℕ) → (34 ∷ flat_map escaped_character cs) ++ escaped_character c ≡ 34 ∷ flat_map escaped_character (cs ++ c ∷ [])
escaped-more cs c =
    ap (λ (inner : List ℕ). 34 ∷ inner)
    (sym (flat_map-append escaped_character cs (c ∷ []) ∙ ap (λ (rest : List ℕ). flat_map escaped_character cs ++ rest) (flat_map-cons escaped_character c [] ∙ append-nil (escaped_character c))))

-- what the characters are escaped as is what the bytes are
pub quoted-IsEscaped : (text bytes : List ℕ) → IsEscaped text bytes → text ≡ quoted bytes
unfolding quoted
quoted-IsEscaped text bytes (cs, same, spelled) =
    spelled ∙ ap (λ (inner : List ℕ). 34 ∷ (inner ++ 34 ∷ [])) (flat_map-escaped_character cs ∙ ap (flat_map escaped_byte) same)
