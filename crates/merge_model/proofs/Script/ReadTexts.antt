-- A text in quotes is read as what it spells, and nothing else is read as a text.
use Rattle.std.proofs.Common.{◌≡◌, ℕ, zero, suc, ◌-◌, ◌≤◌, inl, inr, List, [], ◌∷◌, ◌++◌, true, Option, Some, None, refl, sym, ap, subst, ◌∙◌, arith, length, length-append, take}
use Rattle.std.specs.Prelude.{option_map, option_and_then, IsUtf8}
use Rattle.std.proofs.Math.Seq.{take-append_seam}
use Rattle.std.proofs.lemmas.Str.{IsUtf8-from_is_utf8, is_utf8-from_IsUtf8}
use Rattle.merge_types.specs.Quoted.{IsQuoted, Spells, piece_at}
use Rattle.merge_types.proofs.Spelling.{Begins, Spells-cons, cases_Spells, piece_shorter}
use Rattle.merge_model.specs.Script.Literals.{inner_of, meant_before, pieces_mean, quoted_of_text, same, some_if, text_between, utf8_only}
use Rattle.merge_model.proofs.Script.ReadLiterals.{and_then-is, option_map-is, same_test, same_text, some_if-is, some_if-true}

-- a first piece, and what those behind it mean
record Pieces (piece : Option (List ℕ × List ℕ)) (behind : List ℕ → Option (List ℕ)) (bytes : List ℕ) : Type 0 where
  meaning : List ℕ
  rest : List ℕ
  tail : List ℕ
  first : piece ≡ Some (meaning, rest)
  more : behind rest ≡ Some tail
  together : meaning ++ tail ≡ bytes

meant_before-is : (piece : Option (List ℕ × List ℕ)) (behind : List ℕ → Option (List ℕ)) (bytes : List ℕ) → meant_before piece behind ≡ Some bytes → Pieces piece behind bytes
meant_before-is None behind bytes e = absurd cc
meant_before-is (Some (meaning, rest)) behind bytes e =
    let h = option_map-is (λ more. meaning ++ more) (behind rest) bytes e in
    record { meaning = meaning; rest = rest; tail = h.0; first = refl; more = h.1; together = h.2 }

pieces_mean-Spells : (count : ℕ) (inner bytes : List ℕ) → pieces_mean count inner ≡ Some bytes → Spells inner bytes
pieces_mean-Spells zero [] bytes e = ([], refl, e)
pieces_mean-Spells (suc count) [] bytes e = ([], refl, e)
pieces_mean-Spells zero (byte ∷ rest) bytes e = absurd cc
pieces_mean-Spells (suc count) (byte ∷ rest) bytes e =
    let h = meant_before-is (piece_at (byte ∷ rest)) (λ behind. pieces_mean count behind) bytes e in
    subst (Spells (byte ∷ rest)) h.together (Spells-cons (byte ∷ rest) h.meaning h.rest h.tail h.first (pieces_mean-Spells count h.rest h.tail h.more))

nothing_spelled : (bytes : List ℕ) → Spells [] bytes → bytes ≡ []
nothing_spelled bytes spells = elim (cases_Spells [] bytes spells) [
  | inl none ↦ none.1
  | inr begins ↦ absurd (omega (arith, piece_shorter [] begins.meaning begins.rest begins.first))
]

begins : (byte : ℕ) (rest bytes : List ℕ) → Spells (byte ∷ rest) bytes → Begins (byte ∷ rest) bytes
begins byte rest bytes spells = elim (cases_Spells (byte ∷ rest) bytes spells) [
  | inl none ↦ absurd (omega (arith, ap length none.0))
  | inr h ↦ h
]

Spells-pieces_mean : (count : ℕ) (inner bytes : List ℕ) → Spells inner bytes → length inner ≤ count → pieces_mean count inner ≡ Some bytes
Spells-pieces_mean zero [] bytes spells most = ap (λ (b : List ℕ). Some b) (sym (nothing_spelled bytes spells))
Spells-pieces_mean (suc count) [] bytes spells most = ap (λ (b : List ℕ). Some b) (sym (nothing_spelled bytes spells))
Spells-pieces_mean zero (byte ∷ rest) bytes spells most = absurd (omega arith)
Spells-pieces_mean (suc count) (byte ∷ rest) bytes spells most =
    let h = begins byte rest bytes spells in
    let shorter = piece_shorter (byte ∷ rest) h.meaning h.rest h.first in
    ap (λ (piece : Option (List ℕ × List ℕ)). meant_before piece (λ behind. pieces_mean count behind)) h.first
    ∙ ap (option_map (λ more. h.meaning ++ more)) (Spells-pieces_mean count h.rest h.tail h.behind (omega (arith, most, shorter)))
    ∙ ap (λ (b : List ℕ). Some b) (sym h.together)

inner_of-is : (inner : List ℕ) → inner_of (34 ∷ (inner ++ 34 ∷ [])) ≡ inner
inner_of-is inner =
    let len : length (34 ∷ (inner ++ 34 ∷ [])) - 2 ≡ length inner = omega (arith, length-append inner (34 ∷ [])) in
    ap (λ (n : ℕ). take n (inner ++ 34 ∷ [])) len ∙ take-append_seam inner (34 ∷ [])

pub quoted_of_text-IsQuoted : (text bytes : List ℕ) → quoted_of_text text ≡ Some bytes → IsQuoted text bytes
quoted_of_text-IsQuoted text bytes e =
    let h = and_then-is text_between (some_if (same text (34 ∷ (inner_of text ++ 34 ∷ []))) (inner_of text)) bytes e in
    let inner = h.0 in
    let quotes = some_if-is _ (inner_of text) inner h.1 in
    let k = and_then-is utf8_only (pieces_mean (length inner) inner) bytes h.2 in
    let utf8 = some_if-is _ k.0 bytes k.2 in (
      inner,
      same_text text _ quotes.0 ∙ ap (λ (x : List ℕ). 34 ∷ (x ++ 34 ∷ [])) quotes.1,
      subst (Spells inner) utf8.1 (pieces_mean-Spells (length inner) inner k.0 k.1),
      subst IsUtf8 utf8.1 (IsUtf8-from_is_utf8 k.0 utf8.0),
    )

pub IsQuoted-quoted_of_text : (text bytes : List ℕ) → IsQuoted text bytes → quoted_of_text text ≡ Some bytes
IsQuoted-quoted_of_text text bytes (inner, is_text, spells, is_utf8_text) =
    let between : inner_of text ≡ inner = ap inner_of is_text ∙ inner_of-is inner in
    let quotes : same text (34 ∷ (inner_of text ++ 34 ∷ [])) ≡ true = same_test text _ (is_text ∙ ap (λ (x : List ℕ). 34 ∷ (x ++ 34 ∷ [])) (sym between)) in
    ap (option_and_then text_between) (some_if-true _ (inner_of text) quotes ∙ ap (λ (x : List ℕ). Some x) between)
    ∙ ap (option_and_then utf8_only) (Spells-pieces_mean (length inner) inner bytes spells (omega arith))
    ∙ some_if-true _ bytes (is_utf8-from_IsUtf8 bytes is_utf8_text)
