use Rattle.merge_served.proofs.Tallies.{rules-steady}
use Rattle.merge_served.proofs.rules_say_the_same_at_any_tally.Goals as goal

pub returns : goal.returns
returns c = rules-steady
