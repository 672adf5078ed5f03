use Rattle.std.proofs.Common.{arith}
use Rattle.merge_sub.proofs.Batches.{batch_ends}
use Rattle.merge_sub.proofs.upload.batch.Goals as goal
use Rattle.merge_sub.proofs.upload.batch.Goals.{else-loop-to-test, then-loop-to-test+else-to-from-lt-GENERATION_LIMIT}

pub returns-clause-end : goal.returns-clause-end
returns-clause-end c =
    batch_ends c.args.rows.now.rows c.args.from c.args.last c.loop-to.to c.loop-to.keys.items c.loop-to.invariant
    (λ less few. elim c.loop-to-test.branch [ then-loop-to-test+else-to-from-lt-GENERATION_LIMIT w ↦ omega (arith, less, few) | else-loop-to-test w ↦ omega (arith, less, few) ])
