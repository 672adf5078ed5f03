use Rattle.merge_honest.proofs.AskRules.{no-ask-misfits}
use Rattle.merge_honest.proofs.senders.asks_name_granted_ranges.Goals as goal

pub returns : goal.returns
returns c resolvers publication valid says tallies slips events = no-ask-misfits resolvers publication valid says tallies slips events
