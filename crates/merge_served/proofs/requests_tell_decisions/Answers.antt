use Rattle.merge_served.proofs.Decided.{requests-tell}
use Rattle.merge_served.proofs.requests_tell_decisions.Goals as goal

pub returns : goal.returns
returns c = requests-tell
