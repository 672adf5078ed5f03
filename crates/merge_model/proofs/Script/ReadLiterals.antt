-- What literals are read as is what they stand for.
use Rattle.std.proofs.Common.{◌≡◌, ℕ, suc, ◌^◌, ◌<◌, ℤ, pos, negsuc, neg_ℤ, List, [], ◌∷◌, Bool, true, false, Option, Some, None, Ok, Err, Result, refl, sym, ap, subst, ◌∙◌, arith, w64, FitsSigned, map, nat_lt}
use Rattle.std.specs.Prelude.{◌&&◌, ◌==◌, if◌then◌else◌, option_map, option_and_then}
use Rattle.std.specs.Char.{to_ascii_lowercase}
use Rattle.std.specs.Fmt.{decimal, signed_decimal}
use Rattle.std.specs.Int.{w128, from_be_bytes}
use Rattle.std.specs.Result.{result_ok}
use Rattle.std.specs.Str.Parse.{IsNumeral, digits_value}
use Rattle.std.proofs.lemmas.Bool.{lt-ltb, ltb-true, ne_eqb}
use Rattle.std.proofs.lemmas.Bool.Decides.{nat_tests}
use Rattle.std.proofs.lemmas.Fmt.{decimal_is_IsNumeral}
use Rattle.std.proofs.lemmas.Slice.Eq.{bytes_eq-Decides}
use Rattle.std.proofs.lemmas.Str.Parse.{digit_from_value}
use Rattle.hex.specs.Hex.{decode_of}
use Rattle.jiff_core.proofs.SignedLemmas.{signed_arith}
use Rattle.uuid.specs.Text.{parsed}
use Rattle.uuid.proofs.OrderLemmas.{from_be_bytes-to_be_bytes_16}
use Rattle.merge_types.specs.Guid.{IsGuidText, guid_text}
use Rattle.merge_types.specs.Literal.{IsBytesText, IsIntText}
use Rattle.merge_types.proofs.Guids.{parsed-guid_text}
use Rattle.merge_model.specs.Script.Literals.{same, some_if, fits_int, number_written, int_of_text, int_printed_as, guid_of_lower, guid_of_text, guid_printed_as, bytes_of_text}

pub same_text : (a b : List ℕ) → same a b ≡ true → a ≡ b
same_text a b e = (bytes_eq-Decides a b).0 e

pub same_test : (a b : List ℕ) → a ≡ b → same a b ≡ true
same_test a b e = (bytes_eq-Decides a b).1 e

pub both : (a b : Bool) → (a && b) ≡ true → (a ≡ true) × (b ≡ true)
both true b e = (refl, e)
both false b e = absurd cc

pub some_if-is : {A : Type 0} (b : Bool) (x y : A) → some_if b x ≡ Some y → (b ≡ true) × (x ≡ y)
some_if-is true x y e = (refl, cc)
some_if-is false x y e = absurd cc

pub some_if-true : {A : Type 0} (b : Bool) (x : A) → b ≡ true → some_if b x ≡ Some x
some_if-true true x e = refl
some_if-true false x e = absurd cc

pub option_map-is : {A B : Type 0} (f : A → B) (o : Option A) (y : B) → option_map f o ≡ Some y → (x : A) × (o ≡ Some x) × (f x ≡ y)
option_map-is f (Some x) y e = (x, refl, cc)
option_map-is f None y e = absurd cc

pub and_then-is : {A B : Type 0} (f : A → Option B) (o : Option A) (y : B) → option_and_then f o ≡ Some y → (x : A) × (o ≡ Some x) × (f x ≡ Some y)
and_then-is f (Some x) y e = (x, refl, e)
and_then-is f None y e = absurd cc

-- Whole numbers.

fits_int-FitsSigned : (z : ℤ) → fits_int z ≡ true → FitsSigned w64 z
fits_int-FitsSigned (pos n) e = omega (arith, signed_arith, ltb-true n (2 ^ 63) e)
fits_int-FitsSigned (negsuc n) e = omega (arith, signed_arith, ltb-true n (2 ^ 63) e)

fits_int-true : (z : ℤ) → FitsSigned w64 z → fits_int z ≡ true
fits_int-true (pos n) fits = lt-ltb n (2 ^ 63) (omega (arith, signed_arith, fits))
fits_int-true (negsuc n) fits = lt-ltb n (2 ^ 63) (omega (arith, signed_arith, fits))

number_written-digits : (ds : List ℕ) → IsNumeral 10 ds → number_written ds ≡ pos (digits_value 10 ds)
number_written-digits [] is = absurd (omega (arith, is.0))
number_written-digits (first ∷ rest) is =
    let no_sign : (first == 45) ≡ false = ne_eqb first 45 (λ e. omega (arith, digit_from_value first is.1.0)) in
    rw no_sign refl

number_written-printed : (z : ℤ) → FitsSigned w64 z → number_written (signed_decimal z) ≡ z
number_written-printed (pos n) fits =
    let is = decimal_is_IsNumeral n (omega (arith, signed_arith, fits)) in
    number_written-digits (decimal n) is.0 ∙ ap (λ (m : ℕ). pos m) is.1
number_written-printed (negsuc n) fits =
    ap (λ (m : ℕ). neg_ℤ (pos m)) (decimal_is_IsNumeral (suc n) (omega (arith, signed_arith, fits))).1

pub int_of_text-IsIntText : (text : List ℕ) (z : ℤ) → int_of_text text ≡ Some z → IsIntText text z
int_of_text-IsIntText text z e =
    let h = some_if-is _ (number_written text) z e in
    let tests = both (fits_int (number_written text)) _ h.0 in
    subst (IsIntText text) h.1 (fits_int-FitsSigned _ tests.0, same_text text _ tests.1)

pub IsIntText-int_of_text : (text : List ℕ) (z : ℤ) → IsIntText text z → int_of_text text ≡ Some z
IsIntText-int_of_text text z is =
    let written : number_written text ≡ z = ap number_written is.1 ∙ number_written-printed z is.0 in
    ap (int_printed_as text) written ∙ some_if-true _ z (rw (fits_int-true z is.0, same_test text (signed_decimal z) is.1) refl)

-- Identifiers.

guid_printed_as-is : (lower : List ℕ) (number found : ℕ) → guid_printed_as lower number ≡ Some found → (found < 2 ^ 128) × (lower ≡ guid_text found)
guid_printed_as-is lower number found e =
    let h = some_if-is _ number found e in
    let tests = both (nat_lt number (2 ^ 128)) _ h.0 in
    subst (λ (n : ℕ). (n < 2 ^ 128) × (lower ≡ guid_text n)) h.1 (ltb-true number (2 ^ 128) tests.0, same_text lower _ tests.1)

pub guid_of_text-IsGuidText : (text : List ℕ) (number : ℕ) → guid_of_text text ≡ Some number → IsGuidText text number
guid_of_text-IsGuidText text number e =
    let lower = map to_ascii_lowercase text in
    let h = and_then-is (λ bytes. guid_printed_as lower (from_be_bytes w128 bytes)) (parsed lower) number e in
    let is = guid_printed_as-is lower (from_be_bytes w128 h.0) number h.2 in
    record { fits = is.0; spelled = is.1 }

pub IsGuidText-guid_of_text : (text : List ℕ) (number : ℕ) → IsGuidText text number → guid_of_text text ≡ Some number
IsGuidText-guid_of_text text number is =
    ap guid_of_lower is.spelled
    ∙ ap (option_and_then (λ bytes. guid_printed_as (guid_text number) (from_be_bytes w128 bytes))) (sym (parsed-guid_text number))
    ∙ ap (guid_printed_as (guid_text number)) (from_be_bytes-to_be_bytes_16 number is.fits)
    ∙ some_if-true _ number (rw (lt-ltb number (2 ^ 128) is.fits, same_test (guid_text number) (guid_text number) refl) refl)

-- Bytes.

result_ok-is : {A E : Type 0} (r : Result A E) (x : A) → result_ok r ≡ Some x → r ≡ Ok x
result_ok-is (Ok y) x e = cc
result_ok-is (Err fault) x e = absurd cc

test_then : {A : Type 0} (b : Bool) (o : Option A) (x : A) → (if b then o else None) ≡ Some x → (b ≡ true) × (o ≡ Some x)
test_then true o x e = (refl, e)
test_then false o x e = absurd cc

pub bytes_of_text-IsBytesText : (text bytes : List ℕ) → bytes_of_text text ≡ Some bytes → IsBytesText text bytes
bytes_of_text-IsBytesText [] bytes e = absurd cc
bytes_of_text-IsBytesText (first ∷ digits) bytes e =
    let h = test_then (first == 120) (result_ok (decode_of digits)) bytes e in
    let is_x : first ≡ 120 = grind (arith, nat_tests, h.0) in
    (digits, ap (λ (b : ℕ). b ∷ digits) is_x, result_ok-is (decode_of digits) bytes h.1)

pub IsBytesText-bytes_of_text : (text bytes : List ℕ) → IsBytesText text bytes → bytes_of_text text ≡ Some bytes
IsBytesText-bytes_of_text text bytes (digits, is_text, decoded) = ap bytes_of_text is_text ∙ ap result_ok decoded
