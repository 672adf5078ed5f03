use Rattle.merge_table.proofs.Edits.{applying_next}
use Rattle.merge_table.proofs.table.Table.apply.Goals as goal

pub loop-edit-preserved : goal.loop-edit-preserved
loop-edit-preserved g c =
    let step = rw c.in-Some.is at c.next.ensures.steps in
    applying_next g.K.Ord.cmp _ _ _ _ c.in-Some.edit _ _ step.0 c.loop-edit.invariant c.edit.ensures.rows c.edit.ensures.slots
