use Rattle.std.proofs.Common.{arith}
use Rattle.merge_sub.specs.Taking.{entries_let_go}
use Rattle.merge_sub.proofs.Steps.{flat-more}
use Rattle.merge_sub.proofs.reply.entries_let_go.Goals as goal

pub loop-key-preserved : goal.loop-key-preserved
loop-key-preserved c =
    flat-more (entries_let_go c.args.rows.now.rows c.args.received) c.args.keys.now c.loop-key.key-index (record { article = 0; row = record { 0 = 0 } })
    c.loop-key.changes _ c.add_let_go.new.changes (omega arith) c.loop-key.invariant c.in_ok-add_let_go.ensures
