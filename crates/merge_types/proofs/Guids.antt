-- Identifiers as text.
use Rattle.std.proofs.Common.{◌≡◌, ℕ, suc, ◌<◌, ◌^◌, List, [], ◌∷◌, ◌++◌, inl, refl, sym, ap, ◌∙◌, length, arith, Some, zero, Bool, true, false, map}
use Rattle.std.specs.Prelude.{if◌then◌else◌}
use Rattle.std.specs.Char.{to_ascii_lowercase}
use Rattle.std.specs.Int.{w128, to_be_bytes, from_be_bytes}
use Rattle.std.specs.List.{All}
use Rattle.std.specs.Str.{IsAscii}
use Rattle.std.proofs.lemmas.List.{length-map, map-append}
use Rattle.std.proofs.lemmas.List.Elements.{All-cons}
use Rattle.std.proofs.lemmas.Bool.Decides.{nat_tests}
use Rattle.uuid.specs.Text.{lower, parsed, by_index, hex_digit, nibble, digit_place, is_hyphen_place}
use Rattle.uuid.proofs.OrderLemmas.{from_be_bytes-to_be_bytes_16}
use Rattle.uuid.proofs.RoundTrips.{parses_hyphenated}
use Rattle.uuid.proofs.TextLemmas.{by_index_length, by_index_cong, hyphenated_ascii, nibble_small}
use Rattle.merge_types.specs.Guid.{IsGuidText, guid_text}

no_byte : All (λ (b : ℕ). b < 256) []
no_byte = λ k d within. absurd (omega arith)

abbrev Fit : List ℕ → Type 0
Fit [] = Unit {0}
Fit (b ∷ bs) = (b < 256) × Fit bs

all_fit : (bs : List ℕ) → Fit bs → All (λ (b : ℕ). b < 256) bs
all_fit [] h = no_byte
all_fit (b ∷ bs) h = All-cons (λ (x : ℕ). x < 256) b bs h.0 (all_fit bs h.1)

to_be_bytes-fits : (n : ℕ) → All (λ b. b < 256) (to_be_bytes w128 n)
to_be_bytes-fits n = all_fit (to_be_bytes w128 n) (omega arith, (omega arith, (omega arith, (omega arith, (omega arith, (omega arith, (omega arith, (omega arith, (omega arith, (omega arith, (omega arith, (omega arith, (omega arith, (omega arith, (omega arith, (omega arith, tt))))))))))))))))

pub parsed-guid_text : (n : ℕ) → Some (to_be_bytes w128 n) ≡ parsed (guid_text n)
unfolding guid_text
parsed-guid_text n = parses_hyphenated lower (to_be_bytes w128 n) (inl refl) refl (to_be_bytes-fits n)

pub length-guid_text : (n : ℕ) → length (guid_text n) ≡ 36
unfolding guid_text
length-guid_text n = by_index_length 36 _

pub length-IsGuidText : (text : List ℕ) (n : ℕ) → IsGuidText text n → length text ≡ 36
length-IsGuidText text n is = omega (arith, simp length-map at (ap length is.spelled), length-guid_text n)

pub IsAscii-guid_text : (n : ℕ) → IsAscii (guid_text n)
unfolding guid_text
IsAscii-guid_text n = hyphenated_ascii lower (to_be_bytes w128 n) (inl refl)

-- one text is that of one number
pub guid_text_injective : (m n : ℕ) → m < 2 ^ 128 → n < 2 ^ 128 → guid_text m ≡ guid_text n → m ≡ n
guid_text_injective m n fits other e =
    let some : Some (to_be_bytes w128 m) ≡ Some (to_be_bytes w128 n) = parsed-guid_text m ∙ ap parsed e ∙ sym (parsed-guid_text n) in
    let same : to_be_bytes w128 m ≡ to_be_bytes w128 n = some_same _ _ some in
    sym (from_be_bytes-to_be_bytes_16 m fits) ∙ ap (from_be_bytes w128) same ∙ from_be_bytes-to_be_bytes_16 n other
  where
    some_same : (a b : List ℕ) → Some a ≡ Some b → a ≡ b
    some_same a b h = cc

map-by_index : (f g : ℕ → ℕ) (n : ℕ) → map f (by_index n g) ≡ by_index n (λ k. f (g k))
unfolding by_index
map-by_index f g zero = refl
map-by_index f g (suc n) = map-append f (by_index n g) (g n ∷ []) ∙ ap (λ (xs : List ℕ). xs ++ f (g n) ∷ []) (map-by_index f g n)

lower_digit : (d : ℕ) → d < 16 → to_ascii_lowercase (hex_digit lower d) ≡ hex_digit lower d
lower_digit d h = grind (arith, nat_tests)

-- the text is in lower case
pub lowercase-guid_text : (n : ℕ) → map to_ascii_lowercase (guid_text n) ≡ guid_text n
unfolding guid_text
lowercase-guid_text n =
    map-by_index to_ascii_lowercase (λ k. if is_hyphen_place k then 45 else hex_digit lower (nibble (to_be_bytes w128 n) (digit_place k))) 36
    ∙ by_index_cong 36 _ _ (λ k within. same (is_hyphen_place k) (nibble (to_be_bytes w128 n) (digit_place k)) (nibble_small (to_be_bytes w128 n) (digit_place k)))
  where
    same : (b : Bool) (d : ℕ) → d < 16 → to_ascii_lowercase (if b then 45 else hex_digit lower d) ≡ (if b then 45 else hex_digit lower d)
    same true d h = refl
    same false d h = lower_digit d h

-- a text is of one number
pub IsGuidText-one : (text : List ℕ) (m n : ℕ) → IsGuidText text m → IsGuidText text n → m ≡ n
IsGuidText-one text m n is other = guid_text_injective m n is.fits other.fits (sym is.spelled ∙ other.spelled)

-- what is printed is a text of the number
pub IsGuidText-guid_text : (n : ℕ) → n < 2 ^ 128 → IsGuidText (guid_text n) n
IsGuidText-guid_text n fits = record { fits = fits; spelled = lowercase-guid_text n }
