use Rattle.merge_steps.specs.Rows.{moved_edit}
use Rattle.merge_steps.proofs.ListSteps.{flat-step}
use Rattle.merge_steps.proofs.edits.moved_edits.Goals as goal

pub loop-edit-preserved : goal.loop-edit-preserved
loop-edit-preserved c =
    flat-step (moved_edit c.args.mappings.now.rows) c.args.edits.now _ _ _ _ _ c.loop-edit-test.true c.loop-edit.invariant c.in_ok-more.ensures c.in_ok-append.ensures.items
