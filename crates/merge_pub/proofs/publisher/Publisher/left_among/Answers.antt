use Rattle.merge_pub.specs.Forgetting.{is_left_at}
use Rattle.merge_pub.specs.Held.{tables_of}
use Rattle.merge_steps.proofs.ListSteps.{filter-step}
use Rattle.merge_pub.proofs.publisher.Publisher.left_among.Goals as goal

pub loop-key-preserved : goal.loop-key-preserved
loop-key-preserved c =
    filter-step (is_left_at (tables_of c.args.self.now).mappings c.args.site) c.args.keys.now _ _ _ _ c.loop-key-test.true c.loop-key.invariant c.in_ok-add_if_left.ensures
