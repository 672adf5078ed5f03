use Rattle.merge_stored.proofs.Own.{own-held}
use Rattle.merge_stored.proofs.stored.own_ranges_are_held.Goals as goal

pub returns : goal.returns
returns c resolvers publication valid says tallies slips events = own-held resolvers publication valid says tallies slips events
