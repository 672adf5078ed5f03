use Rattle.merge_pub.specs.Held.{tables_of}
use Rattle.merge_steps.specs.Purging.{gone_at}
use Rattle.merge_pub.proofs.BatchCounts.{given-step}
use Rattle.merge_pub.proofs.publisher.Publisher.gone_among.Goals as goal

pub loop-key-preserved : goal.loop-key-preserved
loop-key-preserved c =
    given-step (gone_at c.args.staying.now.gens.now.book.closings c.args.staying.now.cutoff (tables_of c.args.self.now).rows) c.args.keys.now _ _ _ _ c.loop-key-test.true c.loop-key.invariant
    (rw c.gone_at.ensures at c.in_ok-push_some.ensures.ok)
