use Rattle.merge_stored.proofs.States.{states-load}
use Rattle.merge_stored.proofs.stored.states_have_records.Goals as goal

pub returns : goal.returns
returns c resolvers publication valid says tallies slips events = states-load resolvers publication valid says tallies slips events
