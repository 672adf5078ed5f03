-- Pieces of a text in quotes, and their reader.
use Rattle.std.proofs.Common.{◌≡◌, ℕ, ◌<◌, List, [], ◌∷◌, ◌++◌, ◌⊎◌, inl, inr, Bool, true, false, refl, sym, ap, ◌∙◌, length, arith, Option, Some, None, length-append, eqb-true, subst, append_assoc}
use Rattle.std.specs.Prelude.{◌==◌, if◌then◌else◌, option_map, option_and_then}
use Rattle.std.specs.List.{flat_map}
use Rattle.std.proofs.lemmas.Bool.Decides.{nat_tests}
use Rattle.std.proofs.lemmas.List.{append-nil}
use Rattle.std.proofs.lemmas.List.Concat.{flat_map-cons}
use Rattle.merge_types.specs.Quoted.{Piece, plain, short, long, spelled, meant, all_meant, Spells, with_rest, long_at, escape_at, piece_at}

cases_test : {X : Type 0} (b : Bool) (x y z : X) → (if b then x else y) ≡ z → ((b ≡ true) × (x ≡ z)) ⊎ ((b ≡ false) × (y ≡ z))
cases_test true x y z e = inl (refl, e)
cases_test false x y z e = inr (refl, e)

-- what is read, and what is behind it
abbrev Read : Type 0
Read = List ℕ × List ℕ

else_is : {X : Type 0} (b : Bool) (x y z : X) → b ≡ false → y ≡ z → (if b then x else y) ≡ z
else_is true x y z e h = absurd cc
else_is false x y z e h = h

read_is : (p q : Read) → Some p ≡ Some q → (p.0 ≡ q.0) × (p.1 ≡ q.1)
read_is p q e = let h : p ≡ q = cc in (ap (λ (v : Read). v.0) h, ap (λ (v : Read). v.1) h)

not_both : (o : Option Read) (p : Read) → o ≡ None → o ≡ Some p → ⊥
not_both o p none some = let h : None ≡ Some p = sym none ∙ some in cc

with_rest_is : (o : Option (List ℕ)) (t m rest : List ℕ) → with_rest o t ≡ Some (m, rest) → (o ≡ Some m) × (t ≡ rest)
with_rest_is (Some x) t m rest e = let h = read_is (x, t) (m, rest) e in (ap (λ (l : List ℕ). Some l) h.0, h.1)
with_rest_is None t m rest e = absurd (not_both None (m, rest) refl e)

-- a piece that has a meaning
pub record IsPiece (t m rest : List ℕ) : Type 0 where
  pub piece : Piece
  pub means : meant piece ≡ Some m
  pub front : spelled piece ++ rest ≡ t

long_sound : (t m rest : List ℕ) → long_at t ≡ Some (m, rest) → IsPiece (92 ∷ 117 ∷ t) m rest
unfolding long_at
long_sound [] m rest e = absurd cc
long_sound (a ∷ []) m rest e = absurd cc
long_sound (a ∷ b ∷ []) m rest e = absurd cc
long_sound (a ∷ b ∷ c ∷ []) m rest e = absurd cc
long_sound (a ∷ b ∷ c ∷ d ∷ t) m rest e =
    let h = with_rest_is (meant (long a b c d)) t m rest e in
    record { piece = long a b c d; means = h.0; front = ap (λ (l : List ℕ). 92 ∷ 117 ∷ a ∷ b ∷ c ∷ d ∷ l) (sym h.1) }

escape_sound : (t m rest : List ℕ) → escape_at t ≡ Some (m, rest) → IsPiece (92 ∷ t) m rest
unfolding escape_at
escape_sound [] m rest e = absurd cc
escape_sound (l ∷ t) m rest e =
    elim (cases_test (l == 117) (long_at t) (with_rest (meant (short l)) t) (Some (m, rest)) e) [
      | inl h ↦ let same : l ≡ 117 = eqb-true _ _ h.0 in rw same (long_sound t m rest h.1)
      | inr h ↦
          let k = with_rest_is (meant (short l)) t m rest h.1 in
          record { piece = short l; means = k.0; front = ap (λ (x : List ℕ). 92 ∷ l ∷ x) (sym k.1) }
    ]

pub piece_sound : (t m rest : List ℕ) → piece_at t ≡ Some (m, rest) → IsPiece t m rest
unfolding piece_at
piece_sound [] m rest e = absurd cc
piece_sound (b ∷ t) m rest e =
    elim (cases_test (b == 92) (escape_at t) (with_rest (meant (plain b)) t) (Some (m, rest)) e) [
      | inl h ↦ let same : b ≡ 92 = eqb-true _ _ h.0 in rw same (escape_sound t m rest h.1)
      | inr h ↦
          let k = with_rest_is (meant (plain b)) t m rest h.1 in
          record { piece = plain b; means = k.0; front = ap (λ (x : List ℕ). b ∷ x) (sym k.1) }
    ]

pub other_test : (b n : ℕ) → (b ≡ n → ⊥) → (b == n) ≡ false
other_test b n ne = grind (arith, nat_tests)

-- a backslash does not stand as it is
no_plain_backslash : (b : ℕ) (m : List ℕ) → meant (plain b) ≡ Some m → (b == 92) ≡ false
no_plain_backslash b m e = other_test b 92 (λ same. let h : meant (plain 92) ≡ Some m = subst (λ (x : ℕ). meant (plain x) ≡ Some m) same e in cc)

-- `u` alone is no escape
no_short_u : (l : ℕ) (m : List ℕ) → meant (short l) ≡ Some m → (l == 117) ≡ false
no_short_u l m e = other_test l 117 (λ same. let h : meant (short 117) ≡ Some m = subst (λ (x : ℕ). meant (short x) ≡ Some m) same e in cc)

pub piece_complete : (piece : Piece) (m rest : List ℕ) → meant piece ≡ Some m → piece_at (spelled piece ++ rest) ≡ Some (m, rest)
unfolding piece_at escape_at long_at
piece_complete (plain b) m rest e = else_is (b == 92) _ _ _ (no_plain_backslash b m e) (ap (λ (o : Option (List ℕ)). with_rest o rest) e)
piece_complete (short l) m rest e = else_is (l == 117) _ _ _ (no_short_u l m e) (ap (λ (o : Option (List ℕ)). with_rest o rest) e)
piece_complete (long a b c d) m rest e = ap (λ (o : Option (List ℕ)). with_rest o rest) e

spelled_some : (piece : Piece) → 0 < length (spelled piece)
spelled_some (plain b) = omega arith
spelled_some (short l) = omega arith
spelled_some (long a b c d) = omega arith

pub piece_shorter : (t m rest : List ℕ) → piece_at t ≡ Some (m, rest) → length rest < length t
piece_shorter t m rest e =
    let is = piece_sound t m rest e in
    omega (arith, ap length is.front, length-append (spelled is.piece) rest, spelled_some is.piece)

joined : (a b : Option (List ℕ)) (bytes : List ℕ) → option_and_then (λ front. option_map (λ rest. front ++ rest) b) a ≡ Some bytes
    → (m tail : List ℕ) × (a ≡ Some m) × (b ≡ Some tail) × (bytes ≡ m ++ tail)
joined (Some m) (Some tail) bytes e = (m, tail, refl, refl, cc)
joined (Some m) None bytes e = absurd cc
joined None b bytes e = absurd cc

-- one piece more before what spells the rest
pub Spells-cons : (t m rest tail : List ℕ) → piece_at t ≡ Some (m, rest) → Spells rest tail → Spells t (m ++ tail)
Spells-cons t m rest tail e (pieces, spelled_rest, means_rest) =
    let is = piece_sound t m rest e in
    (is.piece ∷ pieces, flat_map-cons spelled is.piece pieces ∙ ap (λ (l : List ℕ). spelled is.piece ++ l) spelled_rest ∙ is.front, rw (is.means, means_rest) refl)

-- what spells bytes is empty, or begins with a piece
pub record Begins (t bytes : List ℕ) : Type 0 where
  pub meaning : List ℕ
  pub rest : List ℕ
  pub tail : List ℕ
  pub first : piece_at t ≡ Some (meaning, rest)
  pub behind : Spells rest tail
  pub together : bytes ≡ meaning ++ tail

pub cases_Spells : (t bytes : List ℕ) → Spells t bytes → ((t ≡ []) × (bytes ≡ [])) ⊎ Begins t bytes
cases_Spells t bytes ([], spelled_all, means_all) = inl (sym spelled_all, cc)
cases_Spells t bytes (piece ∷ pieces, spelled_all, means_all) =
    let h = joined (meant piece) (all_meant pieces) bytes means_all in
    let whole : spelled piece ++ flat_map spelled pieces ≡ t = sym (flat_map-cons spelled piece pieces) ∙ spelled_all in
    inr (record {
      meaning = h.0;
      rest = flat_map spelled pieces;
      tail = h.1;
      first = ap piece_at (sym whole) ∙ piece_complete piece h.0 (flat_map spelled pieces) h.2;
      behind = (pieces, refl, h.3);
      together = h.4;
    })

-- What the pieces read so far mean: the whole spells what the rest does behind it.
pub record Remains (inner out rest : List ℕ) : Type 0 where
  pub whole : (tail : List ℕ) → Spells rest tail → Spells inner (out ++ tail)
  pub only : (bytes : List ℕ) → Spells inner bytes → (tail : List ℕ) × Spells rest tail × (bytes ≡ out ++ tail)

pub Remains-begin : (inner : List ℕ) → Remains inner [] inner
Remains-begin inner = record { whole = λ tail s. s; only = λ bytes s. (bytes, s, refl) }

pub Remains-step : (inner out t m rest : List ℕ) → piece_at t ≡ Some (m, rest) → Remains inner out t → Remains inner (out ++ m) rest
Remains-step inner out t m rest e remains = record {
  whole = λ tail s. rw append_assoc (remains.whole (m ++ tail) (Spells-cons t m rest tail e s));
  only = λ bytes s. step (remains.only bytes s);
}
  where
    step : {bytes : List ℕ} → (tail : List ℕ) × Spells t tail × (bytes ≡ out ++ tail) → (tail : List ℕ) × Spells rest tail × (bytes ≡ (out ++ m) ++ tail)
    step (tail, s, same) = elim (cases_Spells t tail s) [
      | inl none ↦ absurd (omega (arith, piece_shorter t m rest e, ap length none.0))
      | inr begins ↦
          let h = read_is (begins.meaning, begins.rest) (m, rest) (sym begins.first ∙ e) in
          (begins.tail, subst (λ (x : List ℕ). Spells x begins.tail) h.1 begins.behind, same ∙ ap (λ (x : List ℕ). out ++ x) (begins.together ∙ ap (λ (x : List ℕ). x ++ begins.tail) h.0) ∙ sym (append_assoc out m begins.tail))
    ]

pub Remains-end : (inner out : List ℕ) → Remains inner out [] → Spells inner out
Remains-end inner out remains = rw append-nil at (remains.whole [] ([], refl, refl))

-- where no piece begins nothing is spelled
pub Remains-none : (inner out t : List ℕ) → piece_at t ≡ None → 0 < length t → Remains inner out t → (bytes : List ℕ) → Spells inner bytes → ⊥
Remains-none inner out t e some remains bytes s =
    let h = remains.only bytes s in
    elim (cases_Spells t h.0 h.1) [
      | inl none ↦ omega (arith, ap length none.0)
      | inr begins ↦ not_both (piece_at t) (begins.meaning, begins.rest) e begins.first
    ]

-- one text spells one string of bytes
pub Spells-one : (t bytes other : List ℕ) → Spells t bytes → Spells t other → bytes ≡ other
Spells-one t bytes other (pieces, s, m) second = by pieces t bytes other s m second
  where
    by : (pieces : List Piece) (t bytes other : List ℕ) → flat_map spelled pieces ≡ t → all_meant pieces ≡ Some bytes → Spells t other → bytes ≡ other
    by [] t bytes other s m second = elim (cases_Spells t other second) [
      | inl none ↦ let nil : [] ≡ bytes = cc in sym nil ∙ sym none.1
      | inr begins ↦ absurd (omega (arith, piece_shorter t begins.meaning begins.rest begins.first, ap length s))
    ]
    by (piece ∷ pieces) t bytes other s m second =
        let h = joined (meant piece) (all_meant pieces) bytes m in
        let whole : spelled piece ++ flat_map spelled pieces ≡ t = sym (flat_map-cons spelled piece pieces) ∙ s in
        let first : piece_at t ≡ Some (h.0, flat_map spelled pieces) = ap piece_at (sym whole) ∙ piece_complete piece h.0 (flat_map spelled pieces) h.2 in
        elim (cases_Spells t other second) [
          | inl none ↦ absurd (omega (arith, piece_shorter t h.0 (flat_map spelled pieces) first, ap length none.0))
          | inr begins ↦
              let k = read_is (h.0, flat_map spelled pieces) (begins.meaning, begins.rest) (sym first ∙ begins.first) in
              h.4 ∙ ap (λ (x : List ℕ). x ++ h.1) k.0 ∙ ap (λ (x : List ℕ). begins.meaning ++ x) (by pieces begins.rest h.1 begins.tail k.1 h.3 begins.behind) ∙ sym begins.together
        ]
