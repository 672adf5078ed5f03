use Rattle.merge_part.proofs.Bits.{has_site-or}
use Rattle.merge_part.proofs.sites.Sites.union.Goals as goal

pub returns : goal.returns
returns c = λ place. has_site-or c.args.self.0 c.args.other.0 place
