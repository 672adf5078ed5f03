use Rattle.merge_stored.proofs.Closings.{closings-load}
use Rattle.merge_stored.proofs.stored.closings_have_records.Goals as goal

pub returns : goal.returns
returns c resolvers publication valid says tallies slips events = closings-load resolvers publication valid says tallies slips events
