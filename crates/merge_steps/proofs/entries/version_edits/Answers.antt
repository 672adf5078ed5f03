use Rattle.merge_steps.proofs.Steps.{versions-step}
use Rattle.merge_steps.proofs.entries.version_edits.Goals as goal

pub loop-key-preserved : goal.loop-key-preserved
loop-key-preserved c =
    let step = rw c.in-Some.is at c.next.ensures.steps in
    versions-step _ _ _ _ _ _ _ _ _ c.loop-key.invariant.0 c.loop-key.invariant.1 step.0 c.in_ok-push.ensures.ok
