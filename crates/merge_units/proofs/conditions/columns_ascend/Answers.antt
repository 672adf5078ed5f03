use Rattle.std.proofs.Common.{◌-◌, subst, refl, arith}
use Rattle.std.proofs.lemmas.List.{take_all, get_or_read}
use Rattle.std.proofs.lemmas.Grind.{common_steps}
use Rattle.merge_units.specs.Changes.{ColumnsAscend}
use Rattle.merge_units.proofs.conditions.columns_ascend.Goals as goal

-- the column before the next one is the greatest so far
pub loop-at-preserved : goal.loop-at-preserved
loop-at-preserved c i j d lt in_range =
    let last = c.loop-at.at - 1 in
    let next = get_or_read c.args.edits.now c.loop-at.at _ (omega arith) c.index-edits-at.is d in
    let before = get_or_read c.args.edits.now last _ (omega arith) c.index-edits-at-in-loop-at.is d in
    grind (arith, common_steps, c.loop-at.invariant i j d, c.loop-at.invariant i last d)

-- those so far are all
pub returns : goal.returns
returns c = (λ found. subst ColumnsAscend (take_all c.loop-at.at c.args.edits.now (omega arith)) c.loop-at.invariant, λ ascends. refl)
