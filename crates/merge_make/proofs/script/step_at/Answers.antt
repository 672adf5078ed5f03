use Rattle.std.proofs.Common.{arith, refl, ◌<◌}
use Rattle.merge_make.proofs.Parts.{drop-parts, found-at, passed-on}
use Rattle.merge_make.proofs.script.step_at.Goals as goal

pub returns-then-left-len : goal.returns-then-left-len
returns-then-left-len c =
    let less : c.loop-part.part-index < 9 = omega arith in
    found-at c.args.customers c.args.place c.loop-part.left c.loop-part.part-index _ _ (drop-parts c.args.customers _ _ less) c.loop-part.invariant c.len-len.ensures c.if-left-len.true _ c.step.ensures

pub loop-part-preserved : goal.loop-part-preserved
loop-part-preserved c =
    let less : c.loop-part.part-index < 9 = omega arith in
    passed-on c.args.customers c.args.place c.loop-part.left c.loop-part.part-index _ _ (drop-parts c.args.customers _ _ less) c.loop-part.invariant c.len-len.ensures c.if-left-len.false _ refl
