use Rattle.merge_model.specs.Laws.Promises.{SettledHoldsPartition}
use Rattle.merge_laws.proofs.Settled.SettledLaw.{settled-sites-hold}
use Rattle.merge_laws.proofs.Runs.OfActions.{of-valid-runs}
use Rattle.merge_laws.proofs.laws.settled_sites_hold_their_partitions.Goals as goal

pub returns : goal.returns
returns c = of-valid-runs (λ publication says m. SettledHoldsPartition publication m) settled-sites-hold
