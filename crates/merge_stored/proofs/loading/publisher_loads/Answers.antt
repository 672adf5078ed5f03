use Rattle.merge_model.specs.Publisher.{new_holders}
use Rattle.merge_model.specs.Failing.Runs.{model_behind}
use Rattle.merge_stored.specs.Stored.{publisher_stored}
use Rattle.merge_stored.proofs.PublisherLoads.{publisher-loads}
use Rattle.merge_stored.proofs.loading.publisher_loads.Goals as goal

pub returns : goal.returns
returns c = record {
  rules = publisher-loads;
  loads = λ resolvers publication valid says tallies slips events typed.
      c.publisher_stored_tables_load.ensures publication (new_holders publication) (publisher_stored (model_behind publication says tallies slips events).world.publisher) (publisher-loads resolvers publication valid says tallies slips events typed);
}
