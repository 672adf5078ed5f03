use Rattle.merge_promises.proofs.FailingSyncs.{failing-two-rounds}
use Rattle.merge_promises.proofs.SyncLaw.{two-rounds}
use Rattle.merge_promises.proofs.rounds.two_rounds_settle_all_sites.Goals as goal

pub returns : goal.returns
returns c = record {
  plain = two-rounds;
  failing = failing-two-rounds;
}
