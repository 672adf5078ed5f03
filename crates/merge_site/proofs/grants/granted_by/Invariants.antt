use Rattle.std.specs.Prelude.{◌≡◌, ◌++◌, drop}
use Rattle.merge_site.specs.Grants.{granted_by}
use Rattle.merge_site.proofs.grants.granted_by.Given as goal

abbrev pub invariant-loop-plan : goal.invariant-loop-plan
invariant-loop-plan l = l.grants ++ granted_by (drop l.plan-index l.plans) ≡ granted_by l.plans
