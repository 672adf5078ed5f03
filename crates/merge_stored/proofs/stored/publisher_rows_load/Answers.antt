use Rattle.merge_stored.proofs.PublisherRowsLoad.{publisher-rows-load}
use Rattle.merge_stored.proofs.stored.publisher_rows_load.Goals as goal

pub returns : goal.returns
returns c resolvers publication valid says tallies slips events = publisher-rows-load resolvers publication valid says tallies slips events
