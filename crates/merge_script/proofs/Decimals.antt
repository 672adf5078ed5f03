-- What the digits of a decimal say.
use Rattle.std.proofs.Common.{◌≡◌, ℕ, ◌<◌, ◌^◌, List, [], ◌∷◌, length, get_or, Ok, Err, Some, None, Result, rules, arith, true, nat_lt, refl, ap, ◌∙◌, inl, inr, ◌⊎◌, ◌≤◌, Bool, false, ◌&&◌, if◌then◌else◌, ◌==◌, sym}
use Rattle.std.proofs.lemmas.Bool.{lt-ltb, le-ltb, ltb-true, eq-eqb, ne_eqb, cases_lt, false≢true}
use Rattle.std.proofs.lemmas.Fmt.{first_decimal, decimal_digit, digits_decimal, digits_value-decimal, decimal-digits_value}
use Rattle.std.proofs.lemmas.Str.Parse.{IsNumeralModel, numerals_by_fold}
use Rattle.std.specs.Fmt.{decimal}
use Rattle.std.specs.Char.{is_ascii_digit}
use Rattle.std.specs.List.{list_all}
use Rattle.std.specs.declared.option.Option.{Option}
use Rattle.std.specs.Prelude.{IfSome, IfNone}
use Rattle.std.specs.Str.{all_ascii_digits}
use Rattle.merge_script.specs.Names.{begins_decimal, decimal_of, value_behind}

pub digits_model : IsNumeralModel (λ digits. all_ascii_digits digits ≡ true) (value_behind 0)
digits_model = numerals_by_fold _ (search rules) value_behind (search rules)

all_ascii_digits-is : (digits : List ℕ) → all_ascii_digits digits ≡ list_all is_ascii_digit digits
all_ascii_digits-is [] = refl
all_ascii_digits-is (digit ∷ more) = rw (all_ascii_digits-is more) refl

begins-length : (word : List ℕ) → begins_decimal word ≡ true → 0 < length word
begins-length [] h = absurd (cc)
begins-length (digit ∷ more) h = omega arith

begins_decimal-first : (word : List ℕ) → 48 < get_or word 0 0 → begins_decimal word ≡ true
begins_decimal-first [] h = absurd (omega arith)
begins_decimal-first (digit ∷ []) h = refl
begins_decimal-first (digit ∷ next ∷ more) h = rw (ne_eqb digit 48 (λ e. absurd (omega arith))) refl

begins_decimal-printed : (n : ℕ) → n < 2 ^ 64 → (0 < n) ⊎ (n ≤ 0) → begins_decimal (decimal n) ≡ true
begins_decimal-printed n h (inl l) = begins_decimal-first (decimal n) (first_decimal n l h)
begins_decimal-printed n h (inr l) = rw (decimal_digit n (omega arith)) refl

-- what a number prints as is read as it
pub decimal_of-decimal : (n : ℕ) → n < 2 ^ 64 → decimal_of (decimal n) ≡ Some n
decimal_of-decimal n h =
    let digits : list_all is_ascii_digit (decimal n) ≡ true = sym (all_ascii_digits-is (decimal n)) ∙ digits_decimal digits_model n h in
    let begins : begins_decimal (decimal n) ≡ true = begins_decimal-printed n h (cases_lt 0 n) in
    let value : value_behind 0 (decimal n) ≡ n = digits_value-decimal digits_model n h in
    let fits : nat_lt n (2 ^ 64) ≡ true = lt-ltb n (2 ^ 64) h in
    rw (digits, begins, value, fits) refl

tests_pass : (a b c : Bool) (value n : ℕ) → (if (a && b) && c then Some value else None) ≡ Some n → (a ≡ true) × (b ≡ true) × (c ≡ true) × (value ≡ n)
tests_pass true true true value n e = (refl, refl, refl, cc)
tests_pass true true false value n e = absurd (cc)
tests_pass true false c value n e = absurd (cc)
tests_pass false b c value n e = absurd (cc)

zero_alone : (word : List ℕ) → begins_decimal word ≡ true → get_or word 0 0 ≡ 48 → length word ≡ 1
zero_alone [] begins e = absurd (cc)
zero_alone (digit ∷ []) begins e = omega arith
zero_alone (digit ∷ next ∷ more) begins e = let zero : (digit == 48) ≡ true = eq-eqb digit 48 e in absurd (false≢true (rw zero at begins))

-- what is read as a number is what it prints as
pub decimal-decimal_of : (word : List ℕ) (n : ℕ) → decimal_of word ≡ Some n → word ≡ decimal n
decimal-decimal_of word n e =
    let tests = tests_pass (list_all is_ascii_digit word) (begins_decimal word) (nat_lt (value_behind 0 word) (2 ^ 64)) (value_behind 0 word) n e in
    let fits : value_behind 0 word < 2 ^ 64 = ltb-true (value_behind 0 word) (2 ^ 64) tests.2 in
    sym (decimal-digits_value digits_model word (all_ascii_digits-is word ∙ tests.0) (begins-length word tests.1) (zero_alone word tests.1) fits) ∙ ap decimal tests.3

-- and it fits 64 bits
decimal_of-fits : (word : List ℕ) (n : ℕ) → decimal_of word ≡ Some n → n < 2 ^ 64
decimal_of-fits word n e =
    let tests = tests_pass (list_all is_ascii_digit word) (begins_decimal word) (nat_lt (value_behind 0 word) (2 ^ 64)) (value_behind 0 word) n e in
    rw (← tests.3) (ltb-true (value_behind 0 word) (2 ^ 64) tests.2)

no_decimal : (word : List ℕ) (said : Option ℕ) → decimal_of word ≡ said → ((n : ℕ) → n < 2 ^ 64 → word ≡ decimal n → ⊥) → None ≡ said
no_decimal word None e h = refl
no_decimal word (Some n) e h = absurd (h n (decimal_of-fits word n e) (decimal-decimal_of word n e))

-- what is read exactly where a number prints as the word is what the decimal says
pub read_is : (word : List ℕ) (r : Option ℕ) → IfSome r (λ n. n < 2 ^ 64) → IfSome r (λ n. word ≡ decimal n)
    → IfNone r ((n : ℕ) → n < 2 ^ 64 → word ≡ decimal n → ⊥) → r ≡ decimal_of word
read_is word None fits some none = no_decimal word (decimal_of word) refl none
read_is word (Some n) fits some none = rw some (sym (decimal_of-decimal n fits))
