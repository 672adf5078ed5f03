use Rattle.merge_pub.specs.Held.{tables_of}
use Rattle.merge_steps.specs.Purging.{taken_at}
use Rattle.merge_pub.proofs.BatchCounts.{given-step}
use Rattle.merge_pub.proofs.publisher.Publisher.taken_among.Goals as goal

pub loop-place-preserved : goal.loop-place-preserved
loop-place-preserved c =
    given-step (taken_at c.args.staying.now.gens.now.book.closings c.args.staying.now.cutoff (tables_of c.args.self.now).mappings) c.args.places.now _ _ _ _ c.loop-place-test.true c.loop-place.invariant
    (rw c.taken_at.ensures at c.in_ok-push_some.ensures.ok)
