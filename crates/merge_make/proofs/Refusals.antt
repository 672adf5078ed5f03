-- Which answers have the text of a refusal.
use Rattle.std.proofs.Common.{Bool, List, [], ap, arith, codes, cond, false, nat_eq, refl, sym, take, true, suc, zero, ℕ, ◌%◌, ◌&&◌, ◌++◌, ◌+◌, ◌/◌, ◌<◌, ◌==◌, ◌||◌, ◌∙◌, ◌∷◌, ◌≡◌}
use Rattle.std.specs.Fmt.{decimal, digit_glyph, digits, digits_onto}
use Rattle.std.specs.Prelude.{nat_lt}
use Rattle.std.specs.Cmp.Lexicographic.{pointwise}
use Rattle.std.proofs.lemmas.Bool.Decides.{nat_tests}
use Rattle.merge_conflict.specs.declared.row.ConflictRow.{ConflictRow}
use Rattle.merge_model.specs.declared.answer.Answer.{Answer}
use Rattle.merge_model.specs.declared.answer.Answer.TheVariants as answer
use Rattle.merge_make.specs.Summary.{answer_text, begins, is_refusal}

-- A count begins with the name of the first article.
counts : (counts : List ℕ) → is_refusal (answer_text (answer.Counts counts)) ≡ false
counts [] = refl
counts (count ∷ more) = refl

-- A list of conflicts begins with a number, or says that there are none.

record BeginsWithDigit (text : List ℕ) : Type 0 where
  digit : ℕ
  more : List ℕ
  is : text ≡ digit ∷ more
  low : digit < 58

low-glyph : (d : ℕ) → d < 10 → digit_glyph false d < 58
low-glyph d less = by (nat_lt d 10) refl
  where
    by : (b : Bool) → nat_lt d 10 ≡ b → cond b (48 + d) (87 + d) < 58
    by true is = omega (arith, less)
    by false is = absurd (grind (arith, nat_tests, less, is))

glyph-first : (n : ℕ) (text : List ℕ) → BeginsWithDigit (digit_glyph false (n % 10) ∷ text)
glyph-first n text = record { digit = digit_glyph false (n % 10); more = text; is = refl; low = low-glyph (n % 10) (omega arith) }

-- of two texts that begin so, the one that is chosen
either : (b : Bool) (a c : List ℕ) → BeginsWithDigit a → BeginsWithDigit c → BeginsWithDigit (cond b a c)
either true a c p q = p
either false a c p q = q

digits-on : (k n : ℕ) (text : List ℕ) → BeginsWithDigit text → BeginsWithDigit (digits_onto k 10 false n text)
digits-on zero n text begun = begun
digits-on (suc k) n text begun = either (n / 10 == 0) _ _ (glyph-first n text) (digits-on k (n / 10) (digit_glyph false (n % 10) ∷ text) (glyph-first n text))

decimal-begins : (n : ℕ) → BeginsWithDigit (decimal n)
unfolding digits
decimal-begins n = either (n / 10 == 0) (digit_glyph false (n % 10) ∷ []) (digits_onto 63 10 false (n / 10) (digit_glyph false (n % 10) ∷ [])) (glyph-first n []) (digits-on 63 (n / 10) (digit_glyph false (n % 10) ∷ []) (glyph-first n []))

not-byte : (byte digit : ℕ) → digit < byte → (byte == digit) ≡ false
not-byte byte digit less = grind (arith, nat_tests, less)

by-digit : (digit : ℕ) (text : List ℕ) → digit < 58 → is_refusal (digit ∷ text) ≡ false
by-digit digit text low =
    ap (λ (b : Bool). (b && pointwise nat_eq (codes "efused") (take 6 text)) || (begins (codes "stopped") (digit ∷ text) || begins (codes "no memory") (digit ∷ text))) (not-byte 114 digit (omega (arith, low)))
    ∙ ap (λ (b : Bool). (b && pointwise nat_eq (codes "topped") (take 6 text)) || begins (codes "no memory") (digit ∷ text)) (not-byte 115 digit (omega (arith, low)))
    ∙ ap (λ (b : Bool). b && pointwise nat_eq (codes "o memory") (take 8 text)) (not-byte 110 digit (omega (arith, low)))

behind-number : (n : ℕ) (a b c d : List ℕ) → is_refusal ((((decimal n ++ a) ++ b) ++ c) ++ d) ≡ false
behind-number n a b c d =
    let begun = decimal-begins n in
    ap (λ (l : List ℕ). is_refusal ((((l ++ a) ++ b) ++ c) ++ d)) begun.is ∙ by-digit begun.digit ((((begun.more ++ a) ++ b) ++ c) ++ d) begun.low

conflicts : (rows : List ConflictRow) → is_refusal (answer_text (answer.Conflicts rows)) ≡ false
conflicts [] = refl
conflicts (row ∷ rows) = behind-number row.number _ _ _ _

-- the same of an answer that is known to be one of these
pub counts-are-none : (a : Answer) (each : List ℕ) → a ≡ answer.Counts each → false ≡ is_refusal (answer_text a)
counts-are-none a each is = sym (ap (λ (x : Answer). is_refusal (answer_text x)) is ∙ counts each)

pub conflicts-are-none : (a : Answer) (rows : List ConflictRow) → a ≡ answer.Conflicts rows → false ≡ is_refusal (answer_text a)
conflicts-are-none a rows is = sym (ap (λ (x : Answer). is_refusal (answer_text x)) is ∙ conflicts rows)
