-- Seats are numbered in order.
use Rattle.std.proofs.Common.{◌≡◌, ◌+◌, ◌++◌, ◌∷◌, ◌∙◌, [], List, ℕ, ap, arith, length, length-append, map, refl, suc, sym, zero}
use Rattle.merge_desk.specs.Views.{SeatView, numbers_from, seat_number}

numbers-push : (first n : ℕ) → numbers_from first (suc n) ≡ numbers_from first n ++ (first + n) ∷ []
numbers-push first zero =
    let here : first ≡ first + 0 = omega arith in
    ap (λ (k : ℕ). k ∷ []) here
numbers-push first (suc n) =
    let there : first + 1 + n ≡ first + suc n = omega arith in
    ap (λ ns. first ∷ ns) (numbers-push (first + 1) n ∙ ap (λ (k : ℕ). numbers_from (first + 1) n ++ k ∷ []) there)

number-behind : (made : List SeatView) (s : SeatView) → map seat_number (made ++ s ∷ []) ≡ map seat_number made ++ s.number ∷ []
number-behind [] s = refl
number-behind (x ∷ made) s = ap (λ ns. x.number ∷ ns) (number-behind made s)

pub numbers-next : (made new : List SeatView) (s : SeatView) → new ≡ made ++ s ∷ [] → map seat_number made ≡ numbers_from 1 (length made) → length made + 1 ≡ s.number
    → map seat_number new ≡ numbers_from 1 (length new)
numbers-next made new s pushed was is =
    let number : s.number ≡ 1 + length made = omega (arith, is) in
    let size : suc (length made) ≡ length new = omega (arith, ap length pushed, length-append made (s ∷ [])) in
    ap (map seat_number) pushed ∙ number-behind made s ∙ ap (λ ns. ns ++ s.number ∷ []) was ∙ ap (λ (k : ℕ). numbers_from 1 (length made) ++ k ∷ []) number
    ∙ sym (numbers-push 1 (length made)) ∙ ap (numbers_from 1) size
