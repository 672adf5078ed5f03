-- Values of fields as they are written, and as they are read.
use Rattle.std.proofs.Common.{◌≡◌, ◌∙◌, ◌<◌, ◌≤◌, ◌-◌, ◌^◌, nat_lt, cond, subst, ℕ, List, [], ◌∷◌, ◌++◌, length, reverse, Bool, true, false, decimal, refl, sym, arith}
use Rattle.std.specs.List.{All}
use Rattle.std.specs.Char.{digit_value}
use Rattle.std.specs.Str.Parse.{AllDigits}
use Rattle.std.proofs.lemmas.Bool.{ltb-true, ltb-false}
use Rattle.std.proofs.lemmas.Bool.Decides.{nat_tests}
use Rattle.std.proofs.lemmas.Fmt.{decimal_is_IsNumeral}
use Rattle.std.proofs.lemmas.List.{reverse-append, reverse-reverse}
use Rattle.std.proofs.lemmas.List.Elements.{All-nil, All-cons, All-head, All-tail, All-append, All-weaker}
use Rattle.httparse.specs.Grammar.{is_ows, skip_ows, trim_ows}

all_reverse : (P : ℕ → Type 0) (xs : List ℕ) → All P xs → All P (reverse xs)
all_reverse P [] h = h
all_reverse P (x ∷ xs) h =
    subst (λ (l : List ℕ). All P l) (sym (reverse-append (x ∷ []) xs))
    (All-append P (reverse xs) (x ∷ []) (all_reverse P xs (All-tail P x xs h)) (All-cons P x [] (All-head P x xs h) (All-nil P)))

skip_plain : (xs : List ℕ) → All (λ b. is_ows b ≡ false) xs → skip_ows xs ≡ xs
skip_plain [] h = refl
skip_plain (b ∷ bs) h = rw (All-head (λ x. is_ows x ≡ false) b bs h) refl

-- a value with no blank, behind one blank
pub trim_plain : (xs : List ℕ) → All (λ b. is_ows b ≡ false) xs → trim_ows (32 ∷ xs) ≡ xs
unfolding trim_ows
trim_plain xs h = rw (skip_plain xs h, skip_plain (reverse xs) (all_reverse (λ b. is_ows b ≡ false) xs h)) (reverse-reverse xs)

digit_in : (c : ℕ) → digit_value c < 10 → (48 ≤ c) × (c ≤ 57)
digit_in c h = first (nat_lt c 48) refl h
  where
    rest : (b d e f : Bool) → nat_lt c 65 ≡ b → nat_lt c 91 ≡ d → nat_lt c 97 ≡ e → nat_lt c 123 ≡ f → cond b 36 (cond d (c - 55) (cond e 36 (cond f (c - 87) 36))) < 10 → ⊥
    rest true d e f p q r s low = omega (arith, low)
    rest false true e f p q r s low = omega (arith, low, ltb-false c 65 p)
    rest false false true f p q r s low = omega (arith, low)
    rest false false false true p q r s low = omega (arith, low, ltb-false c 97 r)
    rest false false false false p q r s low = omega (arith, low)

    second : (b : Bool) → nat_lt c 58 ≡ b → 48 ≤ c → cond b (c - 48) (cond (nat_lt c 65) 36 (cond (nat_lt c 91) (c - 55) (cond (nat_lt c 97) 36 (cond (nat_lt c 123) (c - 87) 36)))) < 10 → (48 ≤ c) × (c ≤ 57)
    second true p le low = (le, omega (arith, ltb-true c 58 p))
    second false p le low = absurd (rest (nat_lt c 65) (nat_lt c 91) (nat_lt c 97) (nat_lt c 123) refl refl refl refl low)

    first : (b : Bool) → nat_lt c 48 ≡ b → cond b 36 (cond (nat_lt c 58) (c - 48) (cond (nat_lt c 65) 36 (cond (nat_lt c 91) (c - 55) (cond (nat_lt c 97) 36 (cond (nat_lt c 123) (c - 87) 36))))) < 10 → (48 ≤ c) × (c ≤ 57)
    first true p low = absurd (omega (arith, low))
    first false p low = second (nat_lt c 58) refl (ltb-false c 48 p) low

all_digits : (ds : List ℕ) → AllDigits 10 ds → All (λ c. (48 ≤ c) × (c ≤ 57)) ds
all_digits [] h = All-nil (λ c. (48 ≤ c) × (c ≤ 57))
all_digits (d ∷ ds) h = All-cons (λ c. (48 ≤ c) × (c ≤ 57)) d ds (digit_in d h.0) (all_digits ds h.1)

-- a decimal has digits alone
pub decimal_digits : (n : ℕ) → n < 2 ^ 64 → All (λ c. (48 ≤ c) × (c ≤ 57)) (decimal n)
decimal_digits n lt = let d = decimal_is_IsNumeral n lt in all_digits (decimal n) d.0.1

not_blank : (b : ℕ) → (33 ≤ b) × (b ≤ 126) → is_ows b ≡ false
not_blank b h = grind (arith, nat_tests)

digit_not_blank : (b : ℕ) → (48 ≤ b) × (b ≤ 57) → is_ows b ≡ false
digit_not_blank b h = not_blank b (omega arith, omega arith)

pub trim_decimal : (n : ℕ) → n < 2 ^ 64 → trim_ows (32 ∷ decimal n) ≡ decimal n
trim_decimal n lt = trim_plain (decimal n) (All-weaker (λ c. (48 ≤ c) × (c ≤ 57)) (λ b. is_ows b ≡ false) digit_not_blank (decimal n) (decimal_digits n lt))
