use Rattle.std.specs.Prelude.{◌-◌}
use Rattle.merge_sub.proofs.Batches.{Batching}
use Rattle.merge_sub.proofs.upload.batch.Given as goal

abbrev pub invariant-loop-to : goal.invariant-loop-to
invariant-loop-to l = Batching l.rows.rows l.from l.last l.to l.keys.items

abbrev pub decreases-loop-to : goal.decreases-loop-to
decreases-loop-to l = l.last - l.to
