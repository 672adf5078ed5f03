use Rattle.merge_laws.specs.Laws.{JoinedTakesActed}
use Rattle.merge_laws.proofs.Runs.LawsOfActions.{joined-takes-acted}
use Rattle.merge_laws.proofs.Runs.OfActions.{of-runs}
use Rattle.merge_laws.proofs.laws.joined_sites_take_for_received_what_has_acted.Goals as goal

pub returns : goal.returns
returns c = of-runs (λ publication says m. JoinedTakesActed m) joined-takes-acted
