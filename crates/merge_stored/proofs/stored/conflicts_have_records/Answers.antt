use Rattle.merge_stored.proofs.Lost.{lost-rows-load}
use Rattle.merge_stored.proofs.stored.conflicts_have_records.Goals as goal

pub returns : goal.returns
returns c resolvers publication valid says tallies slips events = lost-rows-load resolvers publication valid says tallies slips events
