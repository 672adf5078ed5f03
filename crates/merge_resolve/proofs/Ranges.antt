-- Numbers in the range of their type pass the tests of it.
use Rattle.std.proofs.Common.{◌≡◌, ℕ, ℤ, ◌<◌, ◌≤◌, ◌^◌, Bool, false, pos, negsuc, true, refl, arith}
use Rattle.std.specs.Int.{w32, w64}
use Rattle.std.specs.Prelude.{◌&&◌, FitsSigned, nat_le, nat_lt}
use Rattle.std.proofs.lemmas.Bool.Decides.{nat_tests}
use Rattle.merge_resolve.specs.ValueTypes.{is_i32, is_i64}

below_i64 : (n : ℕ) → n < 2 ^ 63 → nat_le n 9223372036854775807 ≡ true
below_i64 n small = let most : n ≤ 9223372036854775807 = omega (arith, small) in grind (arith, nat_tests, most)

below_i32 : (n : ℕ) → n < 2 ^ 31 → nat_le n 2147483647 ≡ true
below_i32 n small = let most : n ≤ 2147483647 = omega (arith, small) in grind (arith, nat_tests, most)

both_true : (a b : Bool) → a ≡ true → b ≡ true → (a && b) ≡ true
both_true true true first second = refl
both_true true false first second = second
both_true false b first second = first

pub i64_ranges : (z : ℤ) → FitsSigned w64 z → is_i64 z ≡ true
i64_ranges (pos n) fits = below_i64 n fits.sfits
i64_ranges (negsuc n) fits = both_true (nat_le n 9223372036854775807) true (below_i64 n fits.sfits) refl

pub i32_ranges : (z : ℤ) → FitsSigned w32 z → is_i32 z ≡ true
i32_ranges (pos n) fits = below_i32 n fits.sfits
i32_ranges (negsuc n) fits = both_true (nat_le n 2147483647) true (below_i32 n fits.sfits) refl

pub u128_ranges : (n : ℕ) → n < 2 ^ 128 → nat_lt n (2 ^ 128) ≡ true
u128_ranges n small = grind (arith, nat_tests, small)
