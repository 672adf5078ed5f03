use Rattle.merge_laws.specs.Laws.{ActedIsDone, GapIsDone, ReceivedIsDone, TakesOnlyClosed}
use Rattle.merge_laws.proofs.Runs.LawsOfActions.{acted-is-done, gap-is-done, received-is-done, takes-only-closed}
use Rattle.merge_laws.proofs.Runs.OfActions.{of-runs}
use Rattle.merge_laws.proofs.laws.received_numbers_are_the_generations_that_acted.Goals as goal

pub returns : goal.returns
returns c = record {
  received = of-runs (λ publication says m. ReceivedIsDone m) received-is-done;
  acted = of-runs (λ publication says m. ActedIsDone m) acted-is-done;
  gap = of-runs (λ publication says m. GapIsDone m) gap-is-done;
  closed = of-runs (λ publication says m. TakesOnlyClosed m) takes-only-closed;
}
