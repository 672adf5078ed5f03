-- Texts that are parted by a point.
use Rattle.std.proofs.Common.{◌≡◌, ◌≢◌, ℕ, zero, suc, ◌+◌, ◌<◌, ◌^◌, List, [], ◌∷◌, ◌++◌, refl, sym, ap, ◌∙◌, length, length-append, get_or, take, drop, arith, subst}
use Rattle.std.specs.List.{All}
use Rattle.std.specs.Fmt.{decimal}
use Rattle.std.specs.Str.Parse.{AllDigits}
use Rattle.std.proofs.lemmas.Fmt.{decimal_is_IsNumeral, length-decimal-le}
use Rattle.std.proofs.lemmas.Str.Parse.{digit_from_value}
use Rattle.merge_types.specs.Rows.{HasFirstPoint, IsDotText}

-- no digit is a point
pub digits_without : (n : ℕ) → (n < 48) → (ds : List ℕ) → AllDigits 10 ds → (k : ℕ) → k < length ds → get_or ds k 0 ≢ n
digits_without n low [] digits k within e = omega arith
digits_without n low (c ∷ cs) digits zero within e = omega (arith, digit_from_value c digits.0)
digits_without n low (c ∷ cs) digits (suc k) within e = digits_without n low cs digits.1 k (omega arith) e

-- the first points of one text are one
pub point_same : (a b c d : List ℕ) → ((k : ℕ) → k < length a → get_or a k 0 ≢ 46) → ((k : ℕ) → k < length c → get_or c k 0 ≢ 46)
    → a ++ (46 ∷ b) ≡ c ++ (46 ∷ d) → (a ≡ c) × (b ≡ d)
point_same [] b [] d first other e = (refl, cc)
point_same [] b (y ∷ c) d first other e = let h : 46 ≡ y = cc in absurd (other 0 (omega arith) (sym h))
point_same (x ∷ a) b [] d first other e = let h : x ≡ 46 = cc in absurd (first 0 (omega arith) h)
point_same (x ∷ a) b (y ∷ c) d first other e =
    let head : x ≡ y = cc in
    let tails : a ++ (46 ∷ b) ≡ c ++ (46 ∷ d) = cc in
    let h = point_same a b c d (λ k within. first (suc k) (omega arith)) (λ k within. other (suc k) (omega arith)) tails in
    (rw (head, h.0) refl, h.1)

pub decimal_without_point : (n : ℕ) → n < 2 ^ 64 → (k : ℕ) → k < length (decimal n) → get_or (decimal n) k 0 ≢ 46
decimal_without_point n fits = digits_without 46 (omega arith) (decimal n) (decimal_is_IsNumeral n fits).0.1

-- a text with a point and a change that it names have the same parts
pub parts_of : (text before behind : List ℕ) (site number : ℕ) → HasFirstPoint text before behind → IsDotText text site number
    → (before ≡ decimal site) × (behind ≡ decimal number)
parts_of text before behind site number point is =
    point_same before behind (decimal site) (decimal number)
    (λ k within. point.first k 0 within)
    (decimal_without_point site (omega (arith, is.site_fits)))
    (sym point.parts ∙ is.spelled)

-- a text that names a change has a point
pub has_point : (text : List ℕ) (site number : ℕ) → IsDotText text site number → All (λ b. b ≢ 46) text → ⊥
has_point text site number is none = by (decimal site) (decimal number) (subst (All (λ b. b ≢ 46)) is.spelled none)
  where
    by : (xs ys : List ℕ) → All (λ b. b ≢ 46) (xs ++ (46 ∷ ys)) → ⊥
    by [] ys h = h 0 0 (omega arith) refl
    by (x ∷ xs) ys h = by xs ys (λ k d within. h (suc k) d (omega arith))

-- at the first point
pub HasFirstPoint-at : (text : List ℕ) (i : ℕ) → i < length text → get_or text i 0 ≡ 46 → ((k : ℕ) → k < i → get_or text k 0 ≢ 46)
    → HasFirstPoint text (take i text) (drop (i + 1) text)
HasFirstPoint-at [] i within at before = absurd (omega arith)
HasFirstPoint-at (b ∷ text) zero within at before = record { parts = ap (λ (x : ℕ). x ∷ text) at; first = λ k d h. absurd (omega arith) }
HasFirstPoint-at (b ∷ text) (suc i) within at before =
    let h = HasFirstPoint-at text i (omega arith) at (λ k low. before (suc k) (omega arith)) in
    let after : suc i + 1 ≡ suc (i + 1) = omega arith in
    record { parts = rw after (ap (λ (rest : List ℕ). b ∷ rest) h.parts); first = step h.first }
  where
    step : All (λ x. x ≢ 46) (take i text) → All (λ x. x ≢ 46) (b ∷ take i text)
    step h zero d low = before 0 (omega arith)
    step h (suc k) d low = h k d (omega arith)

-- a text that names a change is shorter than an identifier
pub length-IsDotText : (text : List ℕ) (site number : ℕ) → IsDotText text site number → length text < 36
length-IsDotText text site number is =
    omega (arith, ap length is.spelled, length-append (decimal site) (46 ∷ decimal number), length-decimal-le 5 site (omega arith) (omega (arith, is.site_fits)) (omega (arith, is.site_fits)), length-decimal-le 19 number (omega arith) (omega (arith, is.fits)) (omega (arith, is.fits)))
