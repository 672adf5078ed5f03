use Rattle.merge_pub.proofs.Looking.{has-row}
use Rattle.merge_pub.proofs.publisher.Publisher.has_row.Goals as goal

pub returns : goal.returns
returns c = has-row _ _ c.self.view_is c.args.site c.args.key _ c.self.invariant.live c.is_in.ensures
