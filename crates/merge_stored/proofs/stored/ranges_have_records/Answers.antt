use Rattle.merge_stored.proofs.Ranges.{ranges-load}
use Rattle.merge_stored.proofs.stored.ranges_have_records.Goals as goal

pub returns : goal.returns
returns c resolvers publication valid says tallies slips events = ranges-load resolvers publication valid says tallies slips events
