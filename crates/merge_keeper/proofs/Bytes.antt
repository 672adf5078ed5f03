-- Numbers as bytes, the highest first, stand in the order of the numbers.
use Rattle.std.proofs.Common.{◌≡◌, ◌∙◌, ℕ, zero, suc, ◌+◌, ◌*◌, ◌/◌, ◌%◌, ◌^◌, ◌<◌, ◌≤◌, List, [], ◌∷◌, ◌++◌, length, refl, sym, ap, arith}
use Rattle.std.specs.Int.{Width, byte_len, to_be_bytes, bytes_high_first, byte_at}
use Rattle.std.specs.Ordering.{nat_cmp, ordering_then, MatchOrdering}
use Rattle.std.specs.declared.cmp.Ordering.{Ordering}
use Rattle.std.specs.declared.cmp.Ordering.TheVariants.{Less, Equal, Greater}
use Rattle.std.specs.Cmp.{nat_cmp_is}
use Rattle.std.specs.Cmp.Lexicographic.{slice_cmp}
use Rattle.std.proofs.lemmas.Cmp.{ranked}
use Rattle.std.proofs.lemmas.Nat.{mod_below}
use Rattle.std.proofs.Math.Nat.{mul-le-mul_right, pow-succ', pow-zero, one-le-pow, mod-eq_of_lt, zero-lt-suc}
use Rattle.std.proofs.Math.Arith.{mod-mul}

-- a greater digit is worth more than any rest
lower_digit : (q x y r s : ℕ) → r < q → x < y → x * q + r < y * q + s
lower_digit q x y r s hr h =
    let more : suc x * q ≤ y * q = mul-le-mul_right q h in
    let one : suc x * q ≡ x * q + q = omega arith in
    omega arith

digit_step : (q x y r s : ℕ) → r < q → s < q → (o : Ordering) → MatchOrdering o (x < y) (x ≡ y) (y < x) → nat_cmp (x * q + r) (y * q + s) ≡ ordering_then o (nat_cmp r s)
digit_step q x y r s hr hs Less h = sym (nat_cmp_is _ _ Less (lower_digit q x y r s hr h))
digit_step q x y r s hr hs Greater h = sym (nat_cmp_is _ _ Greater (lower_digit q y x s r hs h))
digit_step q x y r s hr hs Equal h = rest (nat_cmp r s) (ranked r s (nat_cmp r s) refl)
  where
    same : x * q ≡ y * q
    same = ap (λ (n : ℕ). n * q) h

    rest : (o : Ordering) → MatchOrdering o (r < s) (r ≡ s) (s < r) → nat_cmp (x * q + r) (y * q + s) ≡ o
    rest Less g = sym (nat_cmp_is (x * q + r) (y * q + s) Less (omega (arith, same)))
    rest Equal g = sym (nat_cmp_is (x * q + r) (y * q + s) Equal (omega (arith, same)))
    rest Greater g = sym (nat_cmp_is (x * q + r) (y * q + s) Greater (omega (arith, same)))

-- the higher digit decides, and then the rest
by_digit : (q x y r s : ℕ) → r < q → s < q → nat_cmp (x * q + r) (y * q + s) ≡ ordering_then (nat_cmp x y) (nat_cmp r s)
by_digit q x y r s hr hs = digit_step q x y r s hr hs (nat_cmp x y) (ranked x y (nat_cmp x y) refl)

byte_at_is : (k n : ℕ) → byte_at k n ≡ n / 256 ^ k % 256
byte_at_is zero n = rw pow-zero (omega arith)
byte_at_is (suc k) n = refl

power : (k : ℕ) → 0 < 256 ^ k
power k = one-le-pow k 256 (zero-lt-suc 255)

-- the rest by a power of 256 is a digit and the rest by the power before
split_rest : (k n : ℕ) → n % 256 ^ suc k ≡ (n / 256 ^ k % 256) * 256 ^ k + n % 256 ^ k
split_rest k n = ap (λ (q : ℕ). n % q) (pow-succ' 256 k) ∙ mod-mul n {m = 256} {c = 256 ^ k} (zero-lt-suc 255) (power k)

rests : (k a b : ℕ) → slice_cmp nat_cmp (bytes_high_first k a) (bytes_high_first k b) ≡ nat_cmp (a % 256 ^ k) (b % 256 ^ k)
rests zero a b = nat_cmp_is (a % 256 ^ zero) (b % 256 ^ zero) Equal (rw pow-zero (omega arith))
rests (suc k) a b =
    ap (λ (o : Ordering). ordering_then o (slice_cmp nat_cmp (bytes_high_first k a) (bytes_high_first k b))) (ap (λ (x : ℕ). nat_cmp x (byte_at k b)) (byte_at_is k a) ∙ ap (λ (y : ℕ). nat_cmp (a / 256 ^ k % 256) y) (byte_at_is k b))
    ∙ ap (λ (o : Ordering). ordering_then (nat_cmp (a / 256 ^ k % 256) (b / 256 ^ k % 256)) o) (rests k a b)
    ∙ sym (by_digit (256 ^ k) (a / 256 ^ k % 256) (b / 256 ^ k % 256) (a % 256 ^ k) (b % 256 ^ k) (mod_below a (256 ^ k) (power k)) (mod_below b (256 ^ k) (power k)))
    ∙ ap (λ (x : ℕ). nat_cmp x ((b / 256 ^ k % 256) * 256 ^ k + b % 256 ^ k)) (sym (split_rest k a))
    ∙ ap (λ (y : ℕ). nat_cmp (a % 256 ^ suc k) y) (sym (split_rest k b))

pub be_order : (w : Width) (a b : ℕ) → a < 256 ^ byte_len w → b < 256 ^ byte_len w → slice_cmp nat_cmp (to_be_bytes w a) (to_be_bytes w b) ≡ nat_cmp a b
be_order w a b ha hb =
    rests (byte_len w) a b ∙ ap (λ (x : ℕ). nat_cmp x (b % 256 ^ byte_len w)) (mod-eq_of_lt ha) ∙ ap (λ (y : ℕ). nat_cmp a y) (mod-eq_of_lt hb)

-- a front of one length decides, and then what is behind it
pub fronts_order : (xs ys us vs : List ℕ) → length xs ≡ length ys → slice_cmp nat_cmp (xs ++ us) (ys ++ vs) ≡ ordering_then (slice_cmp nat_cmp xs ys) (slice_cmp nat_cmp us vs)
fronts_order [] [] us vs e = refl
fronts_order [] (y ∷ ys) us vs e = absurd (omega arith)
fronts_order (x ∷ xs) [] us vs e = absurd (omega arith)
fronts_order (x ∷ xs) (y ∷ ys) us vs e =
    let n : length xs ≡ length ys = omega arith in
    ap (λ (o : Ordering). ordering_then (nat_cmp x y) o) (fronts_order xs ys us vs n) ∙ regroup (nat_cmp x y) (slice_cmp nat_cmp xs ys) (slice_cmp nat_cmp us vs)
  where
    regroup : (a b c : Ordering) → ordering_then a (ordering_then b c) ≡ ordering_then (ordering_then a b) c
    regroup Less b c = refl
    regroup Equal b c = refl
    regroup Greater b c = refl

pub length-bytes_high_first : (k n : ℕ) → length (bytes_high_first k n) ≡ k
length-bytes_high_first zero n = refl
length-bytes_high_first (suc k) n = ap suc (length-bytes_high_first k n)

pub length-to_be_bytes : (w : Width) (n : ℕ) → length (to_be_bytes w n) ≡ byte_len w
length-to_be_bytes w n = length-bytes_high_first (byte_len w) n
