use Rattle.merge_stored.proofs.Versions.{versions-load}
use Rattle.merge_stored.proofs.stored.rows_have_records.Goals as goal

pub returns : goal.returns
returns c resolvers publication valid says tallies slips events = versions-load resolvers publication valid says tallies slips events
