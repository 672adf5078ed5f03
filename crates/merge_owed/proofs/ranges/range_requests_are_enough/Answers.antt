use Rattle.merge_laws.proofs.Runs.OfActions.{of-valid-runs}
use Rattle.merge_owed.specs.Ranges.{RangesAreEnough}
use Rattle.merge_owed.proofs.RangesEnough.{ranges-enough}
use Rattle.merge_owed.proofs.ranges.range_requests_are_enough.Goals as goal

pub returns : goal.returns
returns c = of-valid-runs RangesAreEnough ranges-enough
