-- Dates as text.
use Rattle.std.proofs.Common.{◌≡◌, ℕ, ℤ, ◌+◌, ◌*◌, ◌/◌, ◌%◌, ◌<◌, List, [], ◌∷◌, length, get_or, sym, subst, arith}
use Rattle.std.proofs.lemmas.Slice.Eq.{text_from_reads}
use Rattle.merge_types.specs.Day.{two_digits, date_text, IsDateOf, IsDayText}

-- what a text of ten bytes has at its places
pub record Reads (text : List ℕ) (century year month date : ℕ) : Type 0 where
  pub len : length text ≡ 10
  pub century_is : two_digits century ≡ get_or text 0 0 ∷ get_or text 1 0 ∷ []
  pub year_is : two_digits year ≡ get_or text 2 0 ∷ get_or text 3 0 ∷ []
  pub first_dash : get_or text 4 0 ≡ 45
  pub month_is : two_digits month ≡ get_or text 5 0 ∷ get_or text 6 0 ∷ []
  pub second_dash : get_or text 7 0 ≡ 45
  pub date_is : two_digits date ≡ get_or text 8 0 ∷ get_or text 9 0 ∷ []

heads : (a b c d : ℕ) → a ∷ b ∷ [] ≡ c ∷ d ∷ [] → (a ≡ c) × (b ≡ d)
heads a b c d e = (cc, cc)

text_is : (t : List ℕ) (c y m d : ℕ) → c < 100 → y < 100 → Reads t c y m d → t ≡ date_text (c * 100 + y) m d
text_is t c y m d lc ly r =
    let h = heads _ _ _ _ r.century_is in
    let i = heads _ _ _ _ r.year_is in
    let j = heads _ _ _ _ r.month_is in
    let k = heads _ _ _ _ r.date_is in
    let q : (c * 100 + y) / 100 ≡ c = omega arith in
    let s : (c * 100 + y) % 100 ≡ y = omega arith in
    text_from_reads t (date_text (c * 100 + y) m d) r.len
    (rw q (sym h.0), (rw q (sym h.1), (rw s (sym i.0), (rw s (sym i.1), (r.first_dash, (sym j.0, (sym j.1, (r.second_dash, (sym k.0, (sym k.1, tt))))))))))

-- the text is the date of a day
pub day_from : (t : List ℕ) (c y m d : ℕ) (day : ℤ) → c < 100 → y < 100 → Reads t c y m d → IsDateOf (c * 100 + y) m d day → IsDayText t day
day_from t c y m d day lc ly r is =
    record { year = c * 100 + y; month = m; date = d; spelled = text_is t c y m d lc ly r; is_date = is }

two_same : (a b : ℕ) → a / 10 ≡ b / 10 → a % 10 ≡ b % 10 → a ≡ b
two_same a b p q = omega arith

-- and of no other date
pub day_only : (t : List ℕ) (c y m d : ℕ) (day : ℤ) → Reads t c y m d → IsDayText t day → IsDateOf (c * 100 + y) m d day
day_only t c y m d day r is =
    let same : Reads (date_text is.year is.month is.date) c y m d = subst (λ (x : List ℕ). Reads x c y m d) is.spelled r in
    let a = heads _ _ _ _ same.century_is in
    let b = heads _ _ _ _ same.year_is in
    let j = heads _ _ _ _ same.month_is in
    let k = heads _ _ _ _ same.date_is in
    let century : c ≡ is.year / 100 = two_same c (is.year / 100) (omega (arith, a.0)) (omega (arith, a.1)) in
    let year : y ≡ is.year % 100 = two_same y (is.year % 100) (omega (arith, b.0)) (omega (arith, b.1)) in
    let month : is.month ≡ m = two_same is.month m (omega (arith, j.0)) (omega (arith, j.1)) in
    let date : is.date ≡ d = two_same is.date d (omega (arith, k.0)) (omega (arith, k.1)) in
    let whole : is.year ≡ c * 100 + y = omega arith in
    rw (← whole, ← month, ← date) is.is_date
