use Rattle.merge_laws.proofs.Runs.OfActions.{of-valid-runs}
use Rattle.merge_promises.specs.SpacedRounds.{SpacedRoundsSettle}
use Rattle.merge_promises.proofs.SpacedLaw.{spaced-rounds}
use Rattle.merge_promises.proofs.rounds.rounds_beside_other_steps_settle_all_sites.Goals as goal

pub returns : goal.returns
returns c = record {
  runs = of-valid-runs SpacedRoundsSettle spaced-rounds;
  actions = spaced-rounds;
}
