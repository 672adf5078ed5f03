use Rattle.merge_ident.proofs.SeenLists.{new-seen}
use Rattle.merge_ident.proofs.seen_grants.SeenGrants.new.Goals as goal

pub returns : goal.returns
returns c = new-seen _ _ c.new.ensures.empty c.new-2.ensures.empty
