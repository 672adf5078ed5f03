use Rattle.merge_laws.proofs.Runs.OfActions.{of-valid-runs}
use Rattle.merge_owed.specs.Chains.{TopsAreInChains}
use Rattle.merge_owed.proofs.TopsKept.{tops-stand}
use Rattle.merge_owed.proofs.bodies.tops_are_in_chains.Goals as goal

pub returns : goal.returns
returns c = of-valid-runs TopsAreInChains tops-stand
