-- One bit of a word of subscribers.
use Rattle.std.proofs.Common.{◌≡◌, ◌≢◌, ℕ, ◌*◌, ◌%◌, ◌^◌, ◌<◌, ◌||◌, Bool, true, false, max, refl, sym, ap, ◌∙◌, arith, w64}
use Rattle.std.specs.Prelude.{◌==◌, bit_or}
use Rattle.std.specs.Int.{bit_at}
use Rattle.std.proofs.lemmas.Bool.Decides.{nat_tests}
use Rattle.std.proofs.lemmas.Nat.Bits.{bit_at-zero, bit_at_or, bit_at-lt, bit_at_set_same, bit_at_set_other}
use Rattle.merge_part.specs.Sites.{has_site}

max_is_one : (a b : ℕ) → a < 2 → b < 2 → (max a b == 1) ≡ (a == 1 || b == 1)
max_is_one a b ha hb = grind (arith, nat_tests)

pub has_site-or : (a b place : ℕ) → has_site (record { 0 = bit_or a b }) place ≡ (has_site (record { 0 = a }) place || has_site (record { 0 = b }) place)
unfolding has_site
has_site-or a b place = ap (λ (n : ℕ). n == 1) (bit_at_or a b place) ∙ max_is_one (bit_at a place) (bit_at b place) (bit_at-lt a place) (bit_at-lt b place)

set_same : (n place other : ℕ) → place < 64 → other ≡ place → has_site (record { 0 = bit_or n (1 * 2 ^ place % 2 ^ 64) }) other ≡ true
unfolding has_site
set_same n place other fits same = ap (λ (k : ℕ). bit_at (bit_or n (1 * 2 ^ place % 2 ^ 64)) k == 1) same ∙ ap (λ (k : ℕ). k == 1) (bit_at_set_same w64 n place fits)

set_other : (n place other : ℕ) → place < 64 → other ≢ place → has_site (record { 0 = bit_or n (1 * 2 ^ place % 2 ^ 64) }) other ≡ has_site (record { 0 = n }) other
unfolding has_site
set_other n place other fits apart = ap (λ (k : ℕ). k == 1) (bit_at_set_other w64 n place fits other apart)

set_cases : (n place other : ℕ) → place < 64 → (b : Bool) → (other == place) ≡ b → has_site (record { 0 = bit_or n (1 * 2 ^ place % 2 ^ 64) }) other ≡ (b || has_site (record { 0 = n }) other)
set_cases n place other fits true is = set_same n place other fits (grind (arith, nat_tests))
set_cases n place other fits false is = set_other n place other fits (grind (arith, nat_tests))

pub has_site-set : (n place other : ℕ) → place < 64 → has_site (record { 0 = bit_or n (1 * 2 ^ place % 2 ^ 64) }) other ≡ (other == place || has_site (record { 0 = n }) other)
has_site-set n place other fits = set_cases n place other fits (other == place) refl

pub no_site : (place : ℕ) → has_site (record { 0 = 0 }) place ≡ false
unfolding has_site
no_site place = ap (λ (n : ℕ). n == 1) (bit_at-zero place)

equal_by : (m n : ℕ) → (m == n) ≡ true → m ≡ n
equal_by m n h = grind (arith, nat_tests)

or_true : (a b : Bool) → b ≡ true → (a || b) ≡ true
or_true true b h = refl
or_true false b h = h

-- a set that a union adds nothing to has all of the other
pub has_site-covers : (a b : ℕ) → (bit_or a b == a) ≡ true → (place : ℕ) → has_site (record { 0 = b }) place ≡ true → has_site (record { 0 = a }) place ≡ true
has_site-covers a b same place has =
    ap (λ (n : ℕ). has_site (record { 0 = n }) place) (sym (equal_by (bit_or a b) a same)) ∙ has_site-or a b place ∙ or_true (has_site (record { 0 = a }) place) (has_site (record { 0 = b }) place) has
