use Rattle.merge_keeper.proofs.Granted.{none-listed, none-placed, none-seen}
use Rattle.merge_keeper.proofs.grants.GrantsSoFar.new.Goals as goal

pub returns-clause-none : goal.returns-clause-none
returns-clause-none c = none-listed _ c.new-2.ensures.empty

pub returns-clause-index : goal.returns-clause-index
returns-clause-index c = record { seen = none-seen _ _ _ c.new-2.ensures.empty c.new.ensures; placed = none-placed _ c.new-2.ensures.empty }
