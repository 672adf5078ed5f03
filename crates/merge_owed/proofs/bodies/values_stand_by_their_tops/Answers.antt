use Rattle.merge_laws.proofs.Runs.OfActions.{of-valid-runs}
use Rattle.merge_owed.specs.Values.{ValuesStandForGood}
use Rattle.merge_owed.proofs.ValuesKept.{values-stand}
use Rattle.merge_owed.proofs.bodies.values_stand_by_their_tops.Goals as goal

pub returns : goal.returns
returns c = of-valid-runs ValuesStandForGood values-stand
