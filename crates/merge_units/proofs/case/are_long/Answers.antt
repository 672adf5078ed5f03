use Rattle.std.proofs.Common.{arith}
use Rattle.std.proofs.lemmas.Slice.Zip.{length-zip}
use Rattle.std.proofs.lemmas.Grind.{common_steps}
use Rattle.std.proofs.lemmas.Bool.Decides.{nat_tests}
use Rattle.merge_units.proofs.Pairs.{united_weight_next}
use Rattle.merge_units.proofs.case.are_long.Goals as goal

-- one more pair
pub loop-at-preserved : goal.loop-at-preserved
loop-at-preserved c =
    let next = united_weight_next c.args.ours.now c.args.theirs.now c.loop-at.at c.index-ours-at.result c.index-theirs-at.result (omega arith) (omega arith) c.index-ours-at.is c.index-theirs-at.is in
    grind (arith, common_steps, next)

-- all pairs
pub returns : goal.returns
returns c = grind (arith, common_steps, nat_tests, length-zip c.args.ours.now c.args.theirs.now)
