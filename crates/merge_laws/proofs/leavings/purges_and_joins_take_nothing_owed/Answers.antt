use Rattle.merge_laws.specs.Laws.Leavings.{JoinsTakeNothingOwed, PurgesTakeNothingOwed}
use Rattle.merge_laws.proofs.LastLines.LeavingsOwed.{joins-take-nothing, purges-take-nothing}
use Rattle.merge_laws.proofs.Runs.OfActions.{of-valid-runs}
use Rattle.merge_laws.proofs.leavings.purges_and_joins_take_nothing_owed.Goals as goal

pub returns : goal.returns
returns c = record {
  purges = of-valid-runs (λ publication says m. PurgesTakeNothingOwed publication m) purges-take-nothing;
  joins = of-valid-runs (λ publication says m. JoinsTakeNothingOwed publication m) joins-take-nothing;
}
