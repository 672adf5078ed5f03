use Rattle.merge_pub.proofs.OldMappings.{held-mapped}
use Rattle.merge_pub.proofs.publisher.Publisher.sorted_places.Goals as goal

pub returns-clause-all : goal.returns-clause-all
returns-clause-all c = held-mapped _ _ c.self.view_is c.self.invariant.moved c.args.span _ _ c.in_ok-places.ensures c.sort_places.ensures.same
