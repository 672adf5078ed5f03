use Rattle.merge_model.specs.Laws.Promises.{OldIsPast}
use Rattle.merge_laws.proofs.Runs.LawsOfActions.{old-past}
use Rattle.merge_laws.proofs.Runs.OfActions.{of-runs}
use Rattle.merge_laws.proofs.laws.purges_take_nothing_that_live_sites_need.Goals as goal

pub returns : goal.returns
returns c = of-runs (λ publication says m. OldIsPast publication m) old-past
