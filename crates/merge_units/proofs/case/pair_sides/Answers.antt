use Rattle.std.proofs.Common.{arith, refl}
use Rattle.std.proofs.lemmas.Slice.Zip.{length-zip}
use Rattle.std.proofs.lemmas.Grind.{common_steps}
use Rattle.merge_lineage.specs.Lineage.{knows}
use Rattle.merge_units.specs.Cases.{side_of}
use Rattle.merge_units.proofs.Pairs.{map-zip_next}
use Rattle.merge_units.proofs.case.pair_sides.Goals as goal

-- one more side
pub loop-at-preserved : goal.loop-at-preserved
loop-at-preserved c =
    let next = map-zip_next c.args.ours.now c.args.theirs.now c.loop-at.at c.index-ours-at.result c.index-theirs-at.result (omega arith) (omega arith) c.index-ours-at.is c.index-theirs-at.is (side_of c.args.long (knows c.args.here.now) (knows c.args.there.now)) in
    rw (c.in_ok-push.ensures.items, c.pair_side.ensures, c.loop-at.invariant, next) refl

-- all sides
pub returns : goal.returns
returns c = grind (arith, common_steps, length-zip c.args.ours.now c.args.theirs.now)
