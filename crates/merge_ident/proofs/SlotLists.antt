-- Values of a range that is partly used.
use Rattle.std.proofs.Common.{◌≡◌, ℕ, ◌<◌, ℤ, pos, negsuc, ◌+ℤ◌, ◌-ℤ◌, ◌<ℤ◌, ◌≤ℤ◌, arith}
use Rattle.std.proofs.lemmas.Int.{ints}
use Rattle.merge_ident.specs.declared.grants.Range.{Range}
use Rattle.merge_ident.specs.Grants.{natural}
use Rattle.merge_ident.specs.Holders.{size_of}

below_natural : (n : ℕ) (z : ℤ) → n < natural z → pos n <ℤ z
below_natural n (pos m) less = omega (arith, ints)
below_natural n (negsuc m) less = absurd (omega arith)

-- a value that is not used lies in the range
pub next_within : (n : ℕ) (range : Range) → n < size_of range → (range.begin +ℤ pos n) ≤ℤ range.end
next_within n range less =
    let below : pos n <ℤ ((range.end +ℤ pos 1) -ℤ range.begin) = below_natural n ((range.end +ℤ pos 1) -ℤ range.begin) less in
    omega (arith, ints, below)
