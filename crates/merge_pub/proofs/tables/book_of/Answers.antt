use Rattle.merge_pub.proofs.GrantOrder.{restored-grants}
use Rattle.merge_pub.proofs.tables.book_of.Goals as goal

pub returns-clause-grants : goal.returns-clause-grants
returns-clause-grants c = restored-grants c.args.grants _ c.requires.granted c.requires.in_order c.restore.ensures.grants c.restore.ensures.in_order
