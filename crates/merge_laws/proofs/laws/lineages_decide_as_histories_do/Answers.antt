use Rattle.merge_model.specs.Laws.Bridge.{PublisherDecidesAlike}
use Rattle.merge_model.specs.Laws.Promises.{AllStand}
use Rattle.merge_laws.specs.Laws.Deciding.{CasesDecideAlike, EachStepAlike}
use Rattle.merge_laws.proofs.Lineages.LineagesAlways.{all-alike, all-steps, cases-decided, publishers-alike}
use Rattle.merge_laws.proofs.Runs.OfActions.{of-valid-runs}
use Rattle.merge_laws.proofs.laws.lineages_decide_as_histories_do.Goals as goal

pub returns : goal.returns
returns c = record {
  stand = of-valid-runs (λ publication says m. AllStand m) all-alike;
  publisher = of-valid-runs (λ publication says m. PublisherDecidesAlike m) publishers-alike;
  cases = of-valid-runs (λ publication says m. CasesDecideAlike m) cases-decided;
  steps = of-valid-runs EachStepAlike all-steps;
}
