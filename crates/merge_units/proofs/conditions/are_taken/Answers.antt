use Rattle.std.proofs.Common.{arith}
use Rattle.std.proofs.lemmas.Bool.Decides.{nat_tests}
use Rattle.merge_units.proofs.Fits.{none_take_behind}
use Rattle.merge_units.proofs.conditions.are_taken.Goals as goal

-- no cell is left to take a value
pub returns : goal.returns
returns c =
    let none = none_take_behind c.args.decision.now c.args.sides.now c.args.cells.now c.loop-at.at (omega arith) in
    (λ all. grind (arith, nat_tests), λ count. grind (arith, nat_tests))
