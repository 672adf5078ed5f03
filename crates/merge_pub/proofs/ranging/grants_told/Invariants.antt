use Rattle.std.specs.Prelude.{◌≡◌, filter_map, take}
use Rattle.merge_ident.specs.declared.grants.GrantPlan.{GrantPlan}
use Rattle.merge_model.specs.Publisher.PublisherRanges.{granted_by}
use Rattle.merge_pub.proofs.ranging.grants_told.Given as goal

abbrev pub invariant-loop-plan : goal.invariant-loop-plan
invariant-loop-plan l = l.grants ≡ filter_map (λ (plan : GrantPlan). granted_by plan.ask.article plan.answer) (take l.plan-index l.plans)
