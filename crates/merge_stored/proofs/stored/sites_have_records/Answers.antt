use Rattle.merge_stored.proofs.Subscriptions.{sites-load}
use Rattle.merge_stored.proofs.stored.sites_have_records.Goals as goal

pub returns : goal.returns
returns c resolvers publication valid says tallies slips events = sites-load resolvers publication valid says tallies slips events
