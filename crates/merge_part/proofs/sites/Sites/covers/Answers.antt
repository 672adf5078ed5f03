use Rattle.merge_part.proofs.Bits.{has_site-covers}
use Rattle.merge_part.proofs.sites.Sites.covers.Goals as goal

pub returns : goal.returns
returns c = has_site-covers c.args.self.0 c.args.other.0
