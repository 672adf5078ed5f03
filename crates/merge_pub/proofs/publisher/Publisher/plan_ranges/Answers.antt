use Rattle.merge_pub.proofs.DraftFits.{asks-ruled-held, planned-held}
use Rattle.merge_pub.proofs.publisher.Publisher.plan_ranges.Goals as goal

pub prepare_all-requires : goal.prepare_all-requires
prepare_all-requires c = rw c.deref.ensures.value (asks-ruled-held _ _ c.self.view_is c.self.invariant.rules c.args.m.now _ c.in_ok-asks.ensures c.requires)

pub returns-clause-plans : goal.returns-clause-plans
returns-clause-plans c = planned-held _ _ c.self.view_is c.self.invariant.rules c.args.m.now _ _ c.in_ok-asks.ensures (rw c.deref.ensures.value at c.in_ok-planned.ensures.plans)
