use Rattle.merge_sub.proofs.Restored.{index-more}
use Rattle.merge_sub.proofs.starting.index_of.Goals as goal

pub loop-key-preserved : goal.loop-key-preserved
loop-key-preserved c = index-more c.args.rows.now c.loop-key.key-index c.loop-key-item.result c.loop-key-test.true c.loop-key-item.is _ c.as_slice.ensures _ _ _ c.loop-key.invariant c.in_ok-add_row.ensures
