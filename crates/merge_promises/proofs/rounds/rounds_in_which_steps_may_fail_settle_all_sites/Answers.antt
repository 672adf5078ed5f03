use Rattle.merge_laws.proofs.Runs.OfActions.{of-valid-runs}
use Rattle.merge_promises.specs.Syncs.{FailingRoundSettles}
use Rattle.merge_promises.proofs.FailingRounds.{failing-rounds}
use Rattle.merge_promises.proofs.rounds.rounds_in_which_steps_may_fail_settle_all_sites.Goals as goal

pub returns : goal.returns
returns c = record {
  runs = of-valid-runs FailingRoundSettles failing-rounds;
  actions = failing-rounds;
}
