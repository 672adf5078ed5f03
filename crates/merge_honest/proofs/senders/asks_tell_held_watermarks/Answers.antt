use Rattle.merge_honest.proofs.KnownSenders.{no-wrong-watermarks}
use Rattle.merge_honest.proofs.senders.asks_tell_held_watermarks.Goals as goal

pub returns : goal.returns
returns c resolvers publication valid says tallies slips events = no-wrong-watermarks resolvers publication valid says tallies slips events
