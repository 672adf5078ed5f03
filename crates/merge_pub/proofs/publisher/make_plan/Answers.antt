use Rattle.merge_pub.proofs.publisher.make_plan.Goals as goal

pub returns-in-Some-clause-compact : goal.returns-in-Some-clause-compact
returns-in-Some-clause-compact c = rw c.in-Some.is c.make.ensures.compact
