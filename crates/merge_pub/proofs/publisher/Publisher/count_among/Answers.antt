use Rattle.std.specs.Prelude.{Bool, Option, cond, is_some}
use Rattle.std.proofs.Common.{ap, ◌∙◌}
use Rattle.merge_pub.proofs.BatchCounts.{counting-end, counting-step}
use Rattle.merge_pub.proofs.publisher.Publisher.count_among.Goals as goal

pub loop-key-preserved : goal.loop-key-preserved
loop-key-preserved c =
    counting-step _ _ _ _ _ c.args.keys.now _ _ _ _ c.loop-key-test.true (c.one_if_some-count.ensures.count ∙ ap (λ (o : Option Bool). cond (is_some o) 1 0) c.touched.ensures) c.loop-key.invariant

pub returns-clause-count : goal.returns-clause-count
returns-clause-count c = counting-end _ _ _ _ _ c.args.keys.now _ _ c.loop-key-test.false c.loop-key.invariant
