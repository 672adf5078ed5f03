-- A text that names a row is read as it, and nothing else is read as a row.
use Rattle.std.proofs.Common.{◌≡◌, ◌≢◌, ℕ, ◌+◌, ◌/◌, ◌%◌, ◌^◌, ◌<◌, ◌≤◌, inl, inr, List, [], ◌∷◌, ◌++◌, true, false, Option, Some, None, refl, sym, ap, subst, ◌∙◌, arith, length, get_or}
use Rattle.std.specs.Prelude.{option_and_then, IfSome, IfNone}
use Rattle.std.specs.Fmt.{decimal}
use Rattle.std.specs.List.{All, before_first, after_first, position_or_len}
use Rattle.std.proofs.lemmas.Bool.{cases_lt, eqb-true}
use Rattle.std.proofs.lemmas.Bool.Decides.{nat_tests}
use Rattle.std.proofs.lemmas.List.{drop_all}
use Rattle.std.proofs.lemmas.List.Sums.{fails_before_first, passes_at_first}
use Rattle.merge_types.specs.declared.identifiers.RowId.{RowId}
use Rattle.merge_types.specs.Guid.{IsGuidText}
use Rattle.merge_types.specs.Rows.{HasFirstPoint, IsDotText, IsMadeBy, IsRowLiteral, row_number}
use Rattle.merge_types.proofs.Guids.{length-IsGuidText}
use Rattle.merge_types.proofs.Points.{HasFirstPoint-at, has_point, length-IsDotText, parts_of}
use Rattle.merge_script.specs.Names.{decimal_of}
use Rattle.merge_script.proofs.Decimals.{decimal-decimal_of, decimal_of-decimal}
use Rattle.merge_model.specs.Script.Literals.{guid_of_text, is_made_by, is_point, made_row, or_else, row_of_dot, row_of_dot_text, row_of_guid, row_of_text}
use Rattle.merge_model.proofs.Script.ReadLiterals.{and_then-is, guid_of_text-IsGuidText, IsGuidText-guid_of_text, some_if-is, some_if-true}
use Rattle.merge_model.proofs.Script.ReadValues.{or_else-is}

is_made_by-IsMadeBy : (row site number : ℕ) → is_made_by row site number ≡ true → IsMadeBy row site number
is_made_by-IsMadeBy row site number e = record {
  site_fits = grind (arith, nat_tests, e);
  from_one = grind (arith, nat_tests, e);
  fits = grind (arith, nat_tests, e);
  same = grind (arith, nat_tests, e);
}

is_made_by-true : (row site number : ℕ) → IsMadeBy row site number → is_made_by row site number ≡ true
is_made_by-true row site number is = grind (arith, nat_tests, is.site_fits, is.from_one, is.fits, is.same)

made_row-is : (row site number : ℕ) (found : RowId) → made_row row site number ≡ Some found → IsMadeBy row site number × (row ≡ found.0)
made_row-is row site number found e =
    let made : RowId = record { 0 = row } in
    let h = some_if-is (is_made_by row site number) made found e in
    (is_made_by-IsMadeBy row site number h.0, ap (λ (r : RowId). r.0) h.1)

made_row-some : (row site number : ℕ) (found : RowId) → IsMadeBy row site number → row ≡ found.0 → made_row row site number ≡ Some found
made_row-some row site number found is e =
    let made : ℕ → RowId = λ n. record { 0 = n } in
    some_if-true (is_made_by row site number) (made row) (is_made_by-true row site number is) ∙ ap (λ (n : ℕ). Some (made n)) e

no_point : (text : List ℕ) → length text ≤ position_or_len is_point text → All (λ b. b ≢ 46) text
no_point text none k d within e =
    let fails : is_point (get_or text k d) ≡ false = fails_before_first is_point text k d (omega arith) in
    grind (arith, nat_tests, fails, e)

first_point : (text : List ℕ) → position_or_len is_point text < length text → HasFirstPoint text (before_first is_point text) (after_first is_point text)
first_point text within =
    HasFirstPoint-at text (position_or_len is_point text) within
    (eqb-true _ _ (passes_at_first is_point text 0 within))
    (λ k before e. let fails : is_point (get_or text k 0) ≡ false = fails_before_first is_point text k 0 before in grind (arith, nat_tests, fails, e))

-- there is a number behind the first point
point_within : (text : List ℕ) (number : ℕ) → decimal_of (after_first is_point text) ≡ Some number → position_or_len is_point text < length text
point_within text number e = elim (cases_lt (position_or_len is_point text) (length text)) [
  | inl within ↦ within
  | inr none ↦
      let nothing : after_first is_point text ≡ [] = drop_all (position_or_len is_point text + 1) text (omega arith) in
      let read : decimal_of [] ≡ Some number = sym (ap decimal_of nothing) ∙ e in
      absurd cc
]

row_of_dot_text-is : (text : List ℕ) (row : RowId) → row_of_dot_text text ≡ Some row → IsRowLiteral text row.0
row_of_dot_text-is text row e =
    let h = and_then-is (λ site. option_and_then (λ number. row_of_dot site number) (decimal_of (after_first is_point text))) (decimal_of (before_first is_point text)) row e in
    let k = and_then-is (λ number. row_of_dot h.0 number) (decimal_of (after_first is_point text)) row h.2 in
    let made = made_row-is (row_number h.0 k.0) h.0 k.0 row k.2 in
    let point = first_point text (point_within text k.0 k.1) in
    let before : before_first is_point text ≡ decimal h.0 = decimal-decimal_of _ h.0 h.1 in
    let behind : after_first is_point text ≡ decimal k.0 = decimal-decimal_of _ k.0 k.1 in
    let spelled : text ≡ decimal h.0 ++ (46 ∷ decimal k.0) =
    point.parts ∙ ap (λ (x : List ℕ). x ++ (46 ∷ after_first is_point text)) before ∙ ap (λ (x : List ℕ). decimal h.0 ++ (46 ∷ x)) behind in
    record {
      site = h.0;
      number = k.0;
      made = subst (λ (r : ℕ). IsMadeBy r h.0 k.0) made.1 made.0;
      named = inr (record { site_fits = made.0.site_fits; from_one = made.0.from_one; fits = made.0.fits; spelled = spelled });
    }

pub row_of_text-IsRowLiteral : (text : List ℕ) (row : RowId) → row_of_text text ≡ Some row → IsRowLiteral text row.0
row_of_text-IsRowLiteral text row e = elim (or_else-is (option_and_then row_of_guid (guid_of_text text)) _ row e) [
  | inl guid ↦
      let h = and_then-is row_of_guid (guid_of_text text) row guid in
      let made = made_row-is h.0 (h.0 / 2 ^ 80) (h.0 % 2 ^ 62) row h.2 in
      record {
        site = h.0 / 2 ^ 80;
        number = h.0 % 2 ^ 62;
        made = subst (λ (r : ℕ). IsMadeBy r (h.0 / 2 ^ 80) (h.0 % 2 ^ 62)) made.1 made.0;
        named = inl (subst (IsGuidText text) made.1 (guid_of_text-IsGuidText text h.0 h.1));
      }
  | inr dot ↦ row_of_dot_text-is text row dot
]

-- the parts of an identifier that a change makes
made_parts : (row site number : ℕ) → IsMadeBy row site number → (site ≡ row / 2 ^ 80) × (number ≡ row % 2 ^ 62)
made_parts row site number is = (omega (arith, is.site_fits, is.fits, is.same), omega (arith, is.site_fits, is.fits, is.same))

row_of_guid-some : (row : RowId) (site number : ℕ) → IsMadeBy row.0 site number → row_of_guid row.0 ≡ Some row
row_of_guid-some row site number is =
    let parts = made_parts row.0 site number is in
    made_row-some row.0 (row.0 / 2 ^ 80) (row.0 % 2 ^ 62) row (moved _ _ _ _ parts.0 parts.1 is) refl
  where
    moved : (s n s' n' : ℕ) → s ≡ s' → n ≡ n' → IsMadeBy row.0 s n → IsMadeBy row.0 s' n'
    moved s n s' n' e f h = rw (← e, ← f) h

by_guid : (text : List ℕ) (row : RowId) (site number : ℕ) → IsMadeBy row.0 site number → IsGuidText text row.0 → row_of_text text ≡ Some row
by_guid text row site number made guid =
    let read : option_and_then row_of_guid (guid_of_text text) ≡ Some row =
    ap (option_and_then row_of_guid) (IsGuidText-guid_of_text text row.0 guid) ∙ row_of_guid-some row site number made in
    ap (λ (o : Option RowId). or_else o (λ _. row_of_dot_text text)) read

-- a text of a change is no identifier
no_guid : (text : List ℕ) (site number : ℕ) → IsDotText text site number → (o : Option ℕ) → guid_of_text text ≡ o → guid_of_text text ≡ None
no_guid text site number dot (Some row) e = absurd (omega (arith, length-IsGuidText text row (guid_of_text-IsGuidText text row e), length-IsDotText text site number dot))
no_guid text site number dot None e = e

dot_within : (text : List ℕ) (site number : ℕ) → IsDotText text site number → position_or_len is_point text < length text
dot_within text site number dot = elim (cases_lt (position_or_len is_point text) (length text)) [
  | inl within ↦ within
  | inr none ↦ absurd (has_point text site number dot (no_point text none))
]

by_dot : (text : List ℕ) (row : RowId) (site number : ℕ) → IsMadeBy row.0 site number → IsDotText text site number → row_of_text text ≡ Some row
by_dot text row site number made dot =
    let parts = parts_of text (before_first is_point text) (after_first is_point text) site number (first_point text (dot_within text site number dot)) dot in
    let before : decimal_of (before_first is_point text) ≡ Some site = ap decimal_of parts.0 ∙ decimal_of-decimal site (omega (arith, dot.site_fits)) in
    let behind : decimal_of (after_first is_point text) ≡ Some number = ap decimal_of parts.1 ∙ decimal_of-decimal number (omega (arith, dot.fits)) in
    let own : IsMadeBy (row_number site number) site number = subst (λ (r : ℕ). IsMadeBy r site number) made.same made in
    let read : row_of_dot_text text ≡ Some row =
    ap (option_and_then (λ s. option_and_then (λ n. row_of_dot s n) (decimal_of (after_first is_point text)))) before
    ∙ ap (option_and_then (λ n. row_of_dot site n)) behind
    ∙ made_row-some (row_number site number) site number row own (sym made.same) in
    ap (λ (o : Option ℕ). or_else (option_and_then row_of_guid o) (λ _. row_of_dot_text text)) (no_guid text site number dot (guid_of_text text) refl) ∙ read

pub IsRowLiteral-row_of_text : (text : List ℕ) (row : RowId) → IsRowLiteral text row.0 → row_of_text text ≡ Some row
IsRowLiteral-row_of_text text row is = elim is.named [
  | inl guid ↦ by_guid text row is.site is.number is.made guid
  | inr dot ↦ by_dot text row is.site is.number is.made dot
]

-- what is read exactly where the text names a row is what the function reads
pub row_read-is : (text : List ℕ) (read : Option RowId) → IfSome read (λ row. IsRowLiteral text row.0) → IfNone read ((row : ℕ) → IsRowLiteral text row → ⊥) → read ≡ row_of_text text
row_read-is text (Some row) some none = sym (IsRowLiteral-row_of_text text row some)
row_read-is text None some none = by (row_of_text text) refl
  where
    by : (o : Option RowId) → row_of_text text ≡ o → None ≡ row_of_text text
    by (Some row) e = absurd (none row.0 (row_of_text-IsRowLiteral text row e))
    by None e = sym e
