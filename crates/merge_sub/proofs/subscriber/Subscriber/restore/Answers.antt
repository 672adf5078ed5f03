use Rattle.std.proofs.Common.{rules}
use Rattle.merge_sub.proofs.Restored.{held-ascends, restored-sound}
use Rattle.merge_sub.proofs.subscriber.Subscriber.restore.Goals as goal

pub table_of-requires-2 : goal.table_of-requires-2
table_of-requires-2 c = held-ascends c.args.publication _ c.requires.stands

pub invariant_of-result : goal.invariant_of-result
invariant_of-result c = restored-sound c.args.publication c.requires.valid _ c.requires.stands _ (search rules) _ (rw c.as_slice.ensures at c.in_ok-unsent.ensures)
