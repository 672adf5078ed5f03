-- Sixteen bytes.
use Rattle.std.proofs.Common.{◌≡◌, ◌∙◌, ℕ, zero, suc, ◌+◌, ◌*◌, ◌/◌, ◌%◌, ◌^◌, ◌<◌, ◌≤◌, List, [], ◌∷◌, length, get_or, drop, refl, sym, ap, subst, arith}
use Rattle.std.specs.Int.{w128, byte_len, bytes_high_first, byte_at, to_be_bytes, from_be_bytes}
use Rattle.std.proofs.Math.Nat.{pow-succ', pow-zero, one-le-pow, zero-lt-suc, mul-le-mul_right}
use Rattle.std.proofs.Math.Seq.{drop-cons}
use Rattle.std.proofs.lemmas.Nat.{div-mul-add, mod-mul-add}
use Rattle.std.proofs.lemmas.List.{length-drop}
use Rattle.uuid.proofs.OrderLemmas.{from_be_bytes-to_be_bytes_16}
use Rattle.merge_record.specs.Codec.{IsBytes}
use Rattle.merge_record.proofs.Codecs.{IsWide}

-- the number that bytes spell, the highest first
abbrev value_of : List ℕ → ℕ
value_of [] = 0
value_of (b ∷ bs) = b * 256 ^ length bs + value_of bs

rest_bytes : (b : ℕ) (bs : List ℕ) → IsBytes (b ∷ bs) → IsBytes bs
rest_bytes b bs h i = h (suc i)

value_below : (bs : List ℕ) → IsBytes bs → value_of bs < 256 ^ length bs
value_below [] h = rw pow-zero (omega arith)
value_below (b ∷ bs) h =
    let lt : b < 256 = h 0 in
    let rest : value_of bs < 256 ^ length bs = value_below bs (rest_bytes b bs h) in
    let more : suc b * 256 ^ length bs ≤ 256 * 256 ^ length bs = mul-le-mul_right (256 ^ length bs) lt in
    let one : suc b * 256 ^ length bs ≡ b * 256 ^ length bs + 256 ^ length bs = omega arith in
    rw (pow-succ' 256 (length bs)) (omega arith)

byte_at_is : (k n : ℕ) → byte_at k n ≡ n / 256 ^ k % 256
byte_at_is zero n = rw pow-zero (omega arith)
byte_at_is (suc k) n = refl

back : (bs : List ℕ) (x : ℕ) → IsBytes bs → bytes_high_first (length bs) (x * 256 ^ length bs + value_of bs) ≡ bs
back [] x h = refl
back (b ∷ bs) x h =
    let k = length bs in
    let lt : b < 256 = h 0 in
    let below : value_of bs < 256 ^ k = value_below bs (rest_bytes b bs h) in
    let assoc : x * (256 * 256 ^ k) ≡ x * 256 * 256 ^ k = omega arith in
    let split : x * 256 ^ suc k + (b * 256 ^ k + value_of bs) ≡ (x * 256 + b) * 256 ^ k + value_of bs = rw (pow-succ' 256 k) (omega arith) in
    let top : byte_at k ((x * 256 + b) * 256 ^ k + value_of bs) ≡ b = byte_at_is k _ ∙ rw (div-mul-add (x * 256 + b) (256 ^ k) (value_of bs) below, mod-mul-add x 256 b lt) refl in
    ap (λ (n : ℕ). byte_at k n ∷ bytes_high_first k n) split ∙ ap (λ (c : ℕ). c ∷ bytes_high_first k ((x * 256 + b) * 256 ^ k + value_of bs)) top ∙ ap (λ (l : List ℕ). b ∷ l) (back bs (x * 256 + b) (rest_bytes b bs h))

at_place : (bs : List ℕ) (k m : ℕ) → length bs ≡ k + suc m → value_of (drop k bs) ≡ get_or bs k 0 * 256 ^ m + value_of (drop (suc k) bs)
at_place bs k m len =
    let rest : length (drop (suc k) bs) ≡ m = omega (arith, length-drop (suc k) bs) in
    ap value_of (drop-cons bs k 0 (omega arith)) ∙ ap (λ (n : ℕ). get_or bs k 0 * 256 ^ n + value_of (drop (suc k) bs)) rest

at_end : (bs : List ℕ) (k : ℕ) → length bs ≡ k → value_of (drop k bs) ≡ 0
at_end [] zero len = refl
at_end [] (suc k) len = refl
at_end (b ∷ bs) zero len = absurd (omega arith)
at_end (b ∷ bs) (suc k) len = at_end bs k (omega arith)

from_is : (bs : List ℕ) → length bs ≡ 16 → from_be_bytes w128 bs ≡ value_of bs
from_is bs len = omega (
  arith,
  at_place bs 0 15 len,
  at_place bs 1 14 len,
  at_place bs 2 13 len,
  at_place bs 3 12 len,
  at_place bs 4 11 len,
  at_place bs 5 10 len,
  at_place bs 6 9 len,
  at_place bs 7 8 len,
  at_place bs 8 7 len,
  at_place bs 9 6 len,
  at_place bs 10 5 len,
  at_place bs 11 4 len,
  at_place bs 12 3 len,
  at_place bs 13 2 len,
  at_place bs 14 1 len,
  at_place bs 15 0 len,
  at_end bs 16 len,
)

back16 : (bs : List ℕ) → length bs ≡ 16 → IsBytes bs → to_be_bytes w128 (from_be_bytes w128 bs) ≡ bs
back16 bs len h =
    ap (to_be_bytes w128) (from_is bs len ∙ plus (value_of bs) (256 ^ length bs)) ∙ ap (λ (n : ℕ). bytes_high_first n (0 * 256 ^ length bs + value_of bs)) (sym len) ∙ back bs 0 h
  where
    plus : (v q : ℕ) → v ≡ 0 * q + v
    plus v q = omega arith

pub wide128 : IsWide w128 (2 ^ 128)
wide128 = record {
  len = λ n. refl;
  back = back16;
  again = from_be_bytes-to_be_bytes_16;
  below = λ bytes fits. omega (arith, fits 0, fits 1, fits 2, fits 3, fits 4, fits 5, fits 6, fits 7, fits 8, fits 9, fits 10, fits 11, fits 12, fits 13, fits 14, fits 15);
}
