use Rattle.merge_model.specs.Publisher.{new_holders}
use Rattle.merge_model.specs.Failing.Runs.{model_behind}
use Rattle.merge_stored.specs.Stored.{publisher_stored, subscriber_stored}
use Rattle.merge_stored.proofs.TypedRuns.{rules-hold}
use Rattle.merge_stored.proofs.loading.typed_runs_load.Goals as goal

pub returns : goal.returns
returns c = record {
  rules = rules-hold;
  loads = λ resolvers publication valid says tallies slips events typed. (let hold = rules-hold resolvers publication valid says tallies slips events typed in record {
    publisher = c.publisher_stored_tables_load.ensures publication (new_holders publication) (publisher_stored (model_behind publication says tallies slips events).world.publisher) hold.publisher;
    subscribers = λ n s at. c.stored_tables_load.ensures publication (new_holders publication) (subscriber_stored s) (hold.subscribers n s at);
  });
}
