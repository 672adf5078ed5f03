use Rattle.merge_pub.specs.Held.{publication_of, tables_of}
use Rattle.merge_pub.specs.Touches.{item_between}
use Rattle.merge_pub.proofs.BatchCounts.{given-step}
use Rattle.merge_pub.proofs.publisher.Publisher.items_among.Goals as goal

pub loop-key-preserved : goal.loop-key-preserved
loop-key-preserved c =
    given-step (item_between (publication_of c.args.self.now) (tables_of c.args.self.now) c.args.site c.args.from c.args.to) c.args.keys.now _ _ _ _ c.loop-key-test.true c.loop-key.invariant c.in_ok-add_item.ensures
