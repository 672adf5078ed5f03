-- The tables of typed runs are typed, and so keep all rules of a start.
use Rattle.merge_model.specs.History.Model.{Model}
use Rattle.merge_model.specs.Failing.Runs.{model_behind}
use Rattle.merge_laws.proofs.Runs.ValidRules.{valid-rules}
use Rattle.merge_typed.specs.Laws.{TablesAreTyped}
use Rattle.merge_typed.proofs.Always.{tables-are-typed}
use Rattle.merge_stored.specs.TypedRuns.{OfEveryValidTypedRun, RulesHold}
use Rattle.merge_stored.proofs.PublisherLoads.{publisher-loads}
use Rattle.merge_stored.proofs.SubscribersLoad.{subscribers-load}
use Rattle.merge_stored.proofs.ValidPublications.{valid-typed}

pub rules-hold : OfEveryValidTypedRun RulesHold
rules-hold resolvers publication valid says tallies slips events typed =
    let m : Model = model_behind publication says tallies slips events in
    let t : TablesAreTyped m = tables-are-typed publication (valid-rules resolvers publication valid) (valid-typed resolvers publication valid) says tallies slips events typed in
    record {
      publisher = publisher-loads resolvers publication valid says tallies slips events t.publisher;
      subscribers = λ n s at. subscribers-load resolvers publication valid says tallies slips events n s at (t.subscribers n s at);
    }
