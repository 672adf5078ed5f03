use Rattle.merge_laws.specs.Laws.{SubscribersDecideAlike}
use Rattle.merge_laws.proofs.Runs.LawsOfActions.{subscribers-alike}
use Rattle.merge_laws.proofs.Runs.OfActions.{of-runs}
use Rattle.merge_laws.proofs.laws.subscribers_decide_as_their_changes_do.Goals as goal

pub returns : goal.returns
returns c = of-runs (λ publication says m. SubscribersDecideAlike m) subscribers-alike
