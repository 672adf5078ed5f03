use Rattle.merge_served.proofs.Serving.{all-serving}
use Rattle.merge_served.proofs.journals_are_runs.Goals as goal

pub returns : goal.returns
returns c = all-serving
