use Rattle.merge_honest.proofs.IdentityRules.{no-value-misfits}
use Rattle.merge_honest.proofs.items.identity_values_are_right.Goals as goal

pub returns : goal.returns
returns c resolvers publication valid says tallies slips events = no-value-misfits c.identity_values_are_taken_once.ensures.granted resolvers publication valid says tallies slips events
