-- The greatest identity value that a publication file can say has 64 bits.
use Rattle.std.specs.Prelude.{pos, ℕ, ◌≤ℤ◌}
use Rattle.std.proofs.Common.{arith}
use Rattle.std.proofs.lemmas.Bool.Decides.{nat_tests}
use Rattle.std.proofs.lemmas.Int.{ints}
use Rattle.jiff_core.proofs.SignedLemmas.{signed_arith}
use Rattle.merge_schema.specs.Valid.{HasValidRanges}
use Rattle.merge_schema.specs.declared.publication.Identity.{Identity}
use Rattle.merge_model.specs.Tables.Publications.{rule_of}
use Rattle.merge_typed.specs.Outside.{RuleIsTyped}
use Rattle.merge_typed.proofs.Holders.{within}

pub ranges-typed : (place : ℕ) (identity : Identity) → HasValidRanges identity → RuleIsTyped (rule_of (place, identity))
ranges-typed place identity valid =
    let low : pos 1 ≤ℤ identity.greatest = grind (arith, ints, nat_tests, valid.seed, valid.greatest) in
    let high : identity.greatest ≤ℤ pos 9223372036854775807 = grind (arith, ints, nat_tests, valid.fits) in
    within (pos 1) (pos 9223372036854775807) identity.greatest (omega (arith, signed_arith)) (omega (arith, signed_arith)) low high
