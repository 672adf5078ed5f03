use Rattle.merge_stored.proofs.Conflicts.{conflicts-load}
use Rattle.merge_stored.proofs.stored.conflicts_are_numbered.Goals as goal

pub returns : goal.returns
returns c resolvers publication valid says tallies slips events = conflicts-load resolvers publication valid says tallies slips events
