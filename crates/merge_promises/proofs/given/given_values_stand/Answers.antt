use Rattle.merge_promises.proofs.GivenDecided.{given-decided}
use Rattle.merge_promises.proofs.GivenStanding.{given-here, given-there}
use Rattle.merge_promises.proofs.given.given_values_stand.Goals as goal

pub returns : goal.returns
returns c = record {
  publisher = given-here c.actions_keep_values.ensures.values;
  subscribers = given-there c.actions_keep_values.ensures.values;
  decisions = given-decided c.actions_keep_values.ensures.values;
}
