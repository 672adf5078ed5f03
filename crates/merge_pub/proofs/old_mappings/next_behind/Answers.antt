use Rattle.merge_pub.proofs.OldMappings.{behind-next}
use Rattle.merge_pub.proofs.old_mappings.next_behind.Goals as goal

pub returns-clause-next : goal.returns-clause-next
returns-clause-next c = behind-next c.args.moved.now.rows c.args.site c.next_from.result c.next_from.ensures.next
