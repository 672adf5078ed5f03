use Rattle.std.proofs.Common.{arith}
use Rattle.merge_gens.proofs.ClosedGenerations.{closings_more}
use Rattle.merge_gens.proofs.closings.add_closings.Goals as goal

pub loop-closed-preserved : goal.loop-closed-preserved
loop-closed-preserved c = rw c.in_ok-push.ensures.items (closings_more _ _ _ _ _ (search arith) c.loop-closed.invariant)
