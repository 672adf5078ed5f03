use Rattle.merge_honest.proofs.MakerRules.{no-unheard-maker}
use Rattle.merge_honest.proofs.items.makers_are_heard_of.Goals as goal

pub returns : goal.returns
returns c resolvers publication valid says tallies slips events = no-unheard-maker resolvers publication valid says tallies slips events
