use Rattle.merge_part.proofs.Bits.{has_site-set}
use Rattle.merge_part.proofs.sites.Sites.with.Goals as goal

pub returns : goal.returns
returns c = λ other. has_site-set c.args.self.0 c.args.place other c.requires
