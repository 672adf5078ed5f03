use Rattle.merge_pub.proofs.Restored.{indexes-stand}
use Rattle.merge_pub.proofs.indexes.indexes_of.Goals as goal

pub returns : goal.returns
returns g c = indexes-stand c.args.publication.now _ _ c.requires.rows c.requires.mappings _ c.in_ok-membership.ensures.publication c.in_ok-membership.ensures.live c.in_ok-changed.ensures c.in_ok-moved.ensures
