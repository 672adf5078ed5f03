use Rattle.merge_served.proofs.Tallies.{decisions-same}
use Rattle.merge_served.proofs.decisions_are_the_same_at_any_tallies.Goals as goal

pub returns : goal.returns
returns c = decisions-same
