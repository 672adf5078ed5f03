-- One text is the literal of at most one value.
use Rattle.std.proofs.Common.{◌≡◌, ◌≢◌, ℕ, zero, suc, ◌+◌, ◌*◌, ◌/◌, ◌%◌, ◌<◌, ◌≤◌, ◌^◌, ℤ, pos, negsuc, List, [], ◌∷◌, ◌++◌, true, false, refl, sym, ap, ◌∙◌, length, get_or, arith, subst, w64, FitsSigned}
use Rattle.std.specs.Prelude.{codes, if◌then◌else◌}
use Rattle.std.specs.Char.{to_ascii_lowercase}
use Rattle.std.specs.Fmt.{decimal, signed_decimal}
use Rattle.std.specs.Str.Parse.{AllDigits}
use Rattle.std.proofs.lemmas.Bool.Decides.{nat_tests}
use Rattle.std.proofs.lemmas.Fmt.{decimal_is_IsNumeral, signed_decimal_injective}
use Rattle.std.proofs.lemmas.List.{append_cancel_right, get_or-map}
use Rattle.std.proofs.lemmas.Str.Parse.{digit_from_value}
use Rattle.hex.proofs.HexLemmas.{decode_of-same}
use Rattle.jiff_core.proofs.SignedLemmas.{signed_arith}
use Rattle.uuid.specs.Text.{lower, hex_digit, nibble, digit_place, is_hyphen_place}
use Rattle.uuid.proofs.TextLemmas.{by_index_at, nibble_small}
use Rattle.std.specs.Int.{w128, to_be_bytes}
use Rattle.merge_types.specs.declared.values.Value.{Value}
use Rattle.merge_types.specs.declared.values.Value.TheVariants.{Null, Int, Bit, Text, Day, Guid, Bytes}
use Rattle.merge_types.specs.Day.{IsDayText, IsDateOf, date_text}
use Rattle.merge_types.specs.Guid.{IsGuidText, guid_text}
use Rattle.merge_types.specs.Literal.{IsBytesText, IsIntText, IsLiteral}
use Rattle.merge_types.specs.Quoted.{IsQuoted, Spells}
use Rattle.merge_types.proofs.DateTexts.{Reads, day_only}
use Rattle.merge_types.proofs.Days.{date_within}
use Rattle.merge_types.proofs.Guids.{IsGuidText-one, length-IsGuidText}
use Rattle.merge_types.proofs.Spelling.{Spells-one}

-- what the length and the bytes at 0, 4 and 8 of a literal tell of its type
abbrev Shape : Value → ℕ → ℕ → ℕ → ℕ → Type 0
Shape Null len first fifth ninth = (len ≡ 4) × (first ≡ 110)
Shape (Int number) len first fifth ninth = (45 ≤ first) × (first ≤ 57) × (fifth ≢ 45) × (ninth ≢ 45)
Shape (Bit bit) len first fifth ninth = (len ≤ 5) × (102 ≤ first) × (first ≤ 116) × (first ≢ 110)
Shape (Text bytes) len first fifth ninth = first ≡ 34
Shape (Day day) len first fifth ninth = (len ≡ 10) × (48 ≤ first) × (first ≤ 57) × (fifth ≡ 45)
Shape (Guid number) len first fifth ninth = (len ≡ 36) × (48 ≤ first) × (first ≤ 102) × (ninth ≡ 45)
Shape (Bytes bytes) len first fifth ninth = first ≡ 120

abbrev HasShape : Value → List ℕ → Type 0
HasShape value text = Shape value (length text) (get_or text 0 0) (get_or text 4 0) (get_or text 8 0)

no_dash : (ds : List ℕ) → AllDigits 10 ds → (k : ℕ) → get_or ds k 0 ≢ 45
no_dash [] digits k e = omega arith
no_dash (c ∷ cs) digits zero e = omega (arith, digit_from_value c digits.0)
no_dash (c ∷ cs) digits (suc k) e = no_dash cs digits.1 k e

first_digit : (ds : List ℕ) → 0 < length ds → AllDigits 10 ds → (48 ≤ get_or ds 0 0) × (get_or ds 0 0 ≤ 57)
first_digit [] some digits = absurd (omega arith)
first_digit (c ∷ cs) some digits = (omega (arith, digit_from_value c digits.0), omega (arith, digit_from_value c digits.0))

shape_int : (number : ℤ) → FitsSigned w64 number → HasShape (Int number) (signed_decimal number)
shape_int (pos n) fits =
    let small : n < 2 ^ 64 = omega (arith, signed_arith) in
    let is = (decimal_is_IsNumeral n small).0 in
    let first = first_digit (decimal n) is.0 is.1 in
    (omega (arith, first.0), first.1, no_dash (decimal n) is.1 4, no_dash (decimal n) is.1 8)
shape_int (negsuc n) fits =
    let small : suc n < 2 ^ 64 = omega (arith, signed_arith) in
    let is = (decimal_is_IsNumeral (suc n) small).0 in
    (omega arith, omega arith, no_dash (decimal (suc n)) is.1 3, no_dash (decimal (suc n)) is.1 7)

shape_day : (text : List ℕ) (day : ℤ) → IsDayText text day → HasShape (Day day) text
shape_day text day is =
    let within = date_within is.year is.month is.date day is.is_date in
    subst (λ (t : List ℕ). HasShape (Day day) t) (sym is.spelled) (refl, omega arith, omega (arith, within.0), refl)

lower_first : (c d : ℕ) → d < 16 → to_ascii_lowercase c ≡ hex_digit lower d → (48 ≤ c) × (c ≤ 102)
lower_first c d h e = (grind (arith, nat_tests), grind (arith, nat_tests))

lower_dash : (c : ℕ) → to_ascii_lowercase c ≡ 45 → c ≡ 45
lower_dash c e = grind (arith, nat_tests)

guid_text-at : (n k : ℕ) → k < 36 → get_or (guid_text n) k 0 ≡ (if is_hyphen_place k then 45 else hex_digit lower (nibble (to_be_bytes w128 n) (digit_place k)))
unfolding guid_text
guid_text-at n k within = by_index_at 36 (λ j. if is_hyphen_place j then 45 else hex_digit lower (nibble (to_be_bytes w128 n) (digit_place j))) k 0 within

shape_guid : (text : List ℕ) (n : ℕ) → IsGuidText text n → HasShape (Guid n) text
shape_guid text n is =
    let len = length-IsGuidText text n is in
    let at : (k : ℕ) → k < 36 → to_ascii_lowercase (get_or text k 0) ≡ get_or (guid_text n) k 0 = λ k within. sym (get_or-map to_ascii_lowercase text k 0 0 (omega arith)) ∙ ap (λ (t : List ℕ). get_or t k 0) is.spelled in
    let first = lower_first (get_or text 0 0) (nibble (to_be_bytes w128 n) 0) (nibble_small (to_be_bytes w128 n) 0) (at 0 (omega arith) ∙ guid_text-at n 0 (omega arith)) in
    (len, first.0, first.1, lower_dash (get_or text 8 0) (at 8 (omega arith) ∙ guid_text-at n 8 (omega arith)))

shape : (text : List ℕ) (value : Value) → IsLiteral text value → HasShape value text
shape text Null is = rw is (refl, refl)
shape text (Int number) is = subst (λ (t : List ℕ). HasShape (Int number) t) (sym is.1) (shape_int number is.0)
shape text (Bit true) is = rw is (omega arith, omega arith, omega arith, λ e. omega arith)
shape text (Bit false) is = rw is (omega arith, omega arith, omega arith, λ e. omega arith)
shape text (Text bytes) is = ap (λ (t : List ℕ). get_or t 0 0) is.1
shape text (Day day) is = shape_day text day is
shape text (Guid number) is = shape_guid text number is
shape text (Bytes bytes) is = ap (λ (t : List ℕ). get_or t 0 0) is.1

one_text : (text bytes other : List ℕ) → IsQuoted text bytes → IsQuoted text other → bytes ≡ other
one_text text bytes other (inner, e, spells, u) (inner', f, spells', v) =
    let same : 34 ∷ (inner' ++ 34 ∷ []) ≡ 34 ∷ (inner ++ 34 ∷ []) = sym f ∙ e in
    let tails : inner' ++ 34 ∷ [] ≡ inner ++ 34 ∷ [] = cc in
    Spells-one inner bytes other spells (subst (λ (x : List ℕ). Spells x other) (append_cancel_right inner' inner (34 ∷ []) tails) spells')

one_day : (text : List ℕ) (day other : ℤ) → IsDayText text day → IsDayText text other → day ≡ other
one_day text day other is second =
    let within = date_within is.year is.month is.date day is.is_date in
    let r : Reads (date_text is.year is.month is.date) (is.year / 100) (is.year % 100) is.month is.date =
    record { len = refl; century_is = refl; year_is = refl; first_dash = refl; month_is = refl; second_dash = refl; date_is = refl } in
    let read : Reads text (is.year / 100) (is.year % 100) is.month is.date = subst (λ (t : List ℕ). Reads t (is.year / 100) (is.year % 100) is.month is.date) (sym is.spelled) r in
    let year : is.year / 100 * 100 + is.year % 100 ≡ is.year = omega arith in
    let found : IsDateOf is.year is.month is.date other = subst (λ (y : ℕ). IsDateOf y is.month is.date other) year (day_only text (is.year / 100) (is.year % 100) is.month is.date other read second) in
    is.is_date.same ∙ sym found.same

one_bytes : (text bytes other : List ℕ) → IsBytesText text bytes → IsBytesText text other → bytes ≡ other
one_bytes text bytes other (digits, e, d) (digits', f, d') =
    let heads : 120 ∷ digits' ≡ 120 ∷ digits = sym f ∙ e in
    let same : digits' ≡ digits = cc in
    decode_of-same digits bytes other d (rw same at d')

one_int : (text : List ℕ) (y z : ℤ) → IsIntText text y → IsIntText text z → y ≡ z
one_int text y z is other = signed_decimal_injective y z (omega (arith, signed_arith, is.0)) (omega (arith, signed_arith, other.0)) (sym is.1 ∙ other.1)

differ : (value other : Value) (text : List ℕ) → HasShape value text → HasShape other text → IsLiteral text value → IsLiteral text other → value ≡ other
differ Null Null text p q is second = refl
differ (Int y) (Int z) text p q is second = ap (λ (x : ℤ). Int x) (one_int text y z is second)
differ (Bit true) (Bit true) text p q is second = refl
differ (Bit false) (Bit false) text p q is second = refl
differ (Bit true) (Bit false) text p q is second = absurd (let h : codes "true" ≡ codes "false" = sym is ∙ second in cc)
differ (Bit false) (Bit true) text p q is second = absurd (let h : codes "false" ≡ codes "true" = sym is ∙ second in cc)
differ (Text x) (Text y) text p q is second = ap (λ (l : List ℕ). Text l) (one_text text x y is second)
differ (Day x) (Day y) text p q is second = ap (λ (z : ℤ). Day z) (one_day text x y is second)
differ (Guid x) (Guid y) text p q is second = ap (λ (n : ℕ). Guid n) (IsGuidText-one text x y is second)
differ (Bytes x) (Bytes y) text p q is second = ap (λ (l : List ℕ). Bytes l) (one_bytes text x y is second)
differ value other text p q is second = absurd (omega arith)

pub one_value : (text : List ℕ) (value other : Value) → IsLiteral text value → IsLiteral text other → value ≡ other
one_value text value other is second = differ value other text (shape text value is) (shape text other second) is second
