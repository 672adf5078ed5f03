-- The text of a record's key.
use Rattle.std.proofs.Common.{◌≡◌, refl, sym, ap, ◌∙◌, ℕ, ◌+◌, ◌-◌, ◌^◌, ◌<◌, ◌≤◌, List, [], ◌∷◌, ◌++◌, length, take, get_or, flat_map, false}
use Rattle.std.specs.Fmt.{digits, padded_integral, format_spec}
use Rattle.std.proofs.lemmas.Fmt.{hex_byte}
use Rattle.std.proofs.lemmas.List.{flat_map_more, take_more, take_all}
use Rattle.merge_batch.specs.Refusals.{hex_pair, key_text}

-- with one byte more
pub pairs-more : (bytes : List ℕ) (i : ℕ) → get_or bytes i 0 < 256 → i < length bytes
    → flat_map hex_pair (take i bytes) ++ padded_integral (format_spec 32 0 4 2 (2 ^ 64 - 1)) false [] (digits 16 false (get_or bytes i 0)) ≡ flat_map hex_pair (take (i + 1) bytes)
pairs-more bytes i small within =
    ap (λ (text : List ℕ). flat_map hex_pair (take i bytes) ++ text) (hex_byte false (get_or bytes i 0) small)
    ∙ flat_map_more hex_pair [] (take i bytes) (get_or bytes i 0)
    ∙ ap (λ (those : List ℕ). flat_map hex_pair those) (sym (take_more bytes i 0 within))

-- with all bytes of a key that has some
pub pairs-all : (key bytes : List ℕ) (i : ℕ) → bytes ≡ key → length bytes ≤ i → (length key ≡ 0 → ⊥) → flat_map hex_pair (take i bytes) ≡ key_text key
pairs-all [] bytes i same all some = absurd (some refl)
pairs-all (byte ∷ key) bytes i same all some = ap (λ (those : List ℕ). flat_map hex_pair those) (take_all i bytes all ∙ same)
