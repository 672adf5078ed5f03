use Rattle.merge_model.specs.Publisher.{new_holders}
use Rattle.merge_stored.specs.Stored.{subscriber_stored}
use Rattle.merge_stored.proofs.SubscribersLoad.{subscribers-load}
use Rattle.merge_stored.proofs.loading.subscribers_load.Goals as goal

pub returns : goal.returns
returns c = record {
  rules = subscribers-load;
  loads = λ resolvers publication valid says tallies slips events n s at typed. c.stored_tables_load.ensures publication (new_holders publication) (subscriber_stored s) (subscribers-load resolvers publication valid says tallies slips events n s at typed);
}
