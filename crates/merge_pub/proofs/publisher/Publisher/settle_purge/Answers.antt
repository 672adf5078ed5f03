use Rattle.merge_pub.proofs.publisher.Publisher.settle_purge.Goals as goal

pub returns-clause-compact : goal.returns-clause-compact
returns-clause-compact c = c.forget_closings.ensures.compact c.settle.ensures.compact
