use Rattle.merge_pub.proofs.PartitionRows.{partition-told}
use Rattle.merge_pub.proofs.publisher.Publisher.partition.Goals as goal

pub returns : goal.returns
returns c = partition-told _ _ c.self.view_is c.args.site _ c.is_ordered.ensures.rows c.in_ok-inside.ensures
