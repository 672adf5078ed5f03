use Rattle.merge_honest.proofs.KnownSenders.{no-gaps}
use Rattle.merge_honest.proofs.senders.uploads_are_never_gaps.Goals as goal

pub returns : goal.returns
returns c resolvers publication valid says tallies slips events = no-gaps resolvers publication valid says tallies slips events
