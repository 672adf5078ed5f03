-- The generations that a step's entries get.
use Rattle.std.specs.Prelude.{◌≡◌, ◌≤◌, ◌<◌, ◌==◌, ◌+◌, ◌/◌, ◌%◌, ℕ, zero, suc, Bool, true, false, refl, if◌then◌else◌, length, map}
use Rattle.std.specs.List.{AllByRecursion, range_with_len}
use Rattle.std.proofs.Common.{arith}
use Rattle.std.proofs.lemmas.Bool.Decides.{nat_tests}
use Rattle.std.proofs.lemmas.List.FromFn.{length-map-range_with_len}
use Rattle.merge_gens.specs.Filling.{filled_by, filling_after_close, generation_of, generations_of}
use Rattle.merge_gens.specs.declared.filling.Filling.{Filling}
use Rattle.merge_laws.specs.Facts.Settled.{last_used}

-- The generations of a step's entries are behind the last closed one, and are closed or open afterwards.

pub record IsNew (filling : Filling) (count generation : ℕ) : Type 0 where
  pub above : filling.last_closed < generation
  pub below : generation ≤ last_used (filled_by filling count)

used-by : (last x y : ℕ) (b : Bool) → ((y % 1000) == 0) ≡ b → x < y → last + 1 + x / 1000 ≤ (if b then last + y / 1000 else last + y / 1000 + 1)
used-by last x y true e less = let none : y % 1000 ≡ 0 = grind (arith, nat_tests, e) in omega (arith, none, less)
used-by last x y false e less = omega (arith, less)

number-new : (filling : Filling) (count number : ℕ) → number < count → IsNew filling count (generation_of filling number)
number-new filling count number less = record {
  above = omega arith;
  below = used-by filling.last_closed (filling.filled + number) (filling.filled + count) (((filling.filled + count) % 1000) == 0) refl (omega (arith, less));
}

range-new : (filling : Filling) (count from n : ℕ) → from + n ≤ count → AllByRecursion (IsNew filling count) (map (generation_of filling) (range_with_len from n))
range-new filling count from zero up = tt
range-new filling count from (suc n) up = (number-new filling count from (omega (arith, up)), range-new filling count (from + 1) n (omega (arith, up)))

pub generations-new : (filling : Filling) (count : ℕ) → AllByRecursion (IsNew filling count) (generations_of filling count)
generations-new filling count = range-new filling count 0 count (omega arith)

pub generations-many : (filling : Filling) (count : ℕ) → length (generations_of filling count) ≡ count
generations-many filling count = length-map-range_with_len (generation_of filling) 0 count

rises-by : (last x y : ℕ) (b c : Bool) → (x == 0) ≡ b → ((y % 1000) == 0) ≡ c → x ≤ y → (if b then last else last + 1) ≤ (if c then last + y / 1000 else last + y / 1000 + 1)
rises-by last x y true true e f up = omega arith
rises-by last x y true false e f up = omega arith
rises-by last x y false true e f up =
    let some : 1 ≤ x = grind (arith, nat_tests, e) in
    let none : y % 1000 ≡ 0 = grind (arith, nat_tests, f) in
    omega (arith, some, none, up)
rises-by last x y false false e f up = omega arith

pub used-rises : (filling : Filling) (count : ℕ) → last_used filling ≤ last_used (filled_by filling count)
used-rises filling count = rises-by filling.last_closed filling.filled (filling.filled + count) (filling.filled == 0) (((filling.filled + count) % 1000) == 0) refl refl (omega arith)

pub used-low : (filling : Filling) → last_used filling ≤ filling.last_closed + 1
used-low filling = grind (arith, nat_tests)

pub used-empty : (filling : Filling) → filling.filled ≡ 0 → last_used filling ≡ filling.last_closed
used-empty filling empty = grind (arith, nat_tests, empty)

pub used-closed : (filling : Filling) → last_used (filling_after_close filling) ≡ last_used filling
used-closed filling = grind (arith, nat_tests)
