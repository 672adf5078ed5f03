use Rattle.merge_ident.specs.declared.grants.GrantPlan.{GrantPlan}
use Rattle.merge_model.specs.Publisher.PublisherRanges.{granted_by}
use Rattle.merge_pub.proofs.BatchCounts.{given-step}
use Rattle.merge_pub.proofs.ranging.grants_told.Goals as goal

pub loop-plan-preserved : goal.loop-plan-preserved
loop-plan-preserved c =
    given-step (λ (plan : GrantPlan). granted_by plan.ask.article plan.answer) _ _ _ _ _ c.loop-plan-test.true c.loop-plan.invariant (rw c.granted_by.ensures at c.in_ok-push_some.ensures.ok)
