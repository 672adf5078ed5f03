use Rattle.std.proofs.Common.{◌∙◌}
use Rattle.merge_ident.proofs.SeenLists.{fits-is}
use Rattle.merge_ident.proofs.seen_grants.SeenGrants.can_follow.Goals as goal

pub returns : goal.returns
returns c = λ before seen. c.fits.ensures ∙ fits-is _ _ before seen c.args.grant
