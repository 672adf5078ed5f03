use Rattle.merge_laws.specs.Laws.{ClosingsKeepTheLast, ReceivedNumberIsDone, UnmetIsDone, UploadsTellTheLast}
use Rattle.merge_laws.proofs.Runs.LawsOfActions.{closings-keep-the-last, number-is-done, unmet-is-done, uploads-tell-the-last}
use Rattle.merge_laws.proofs.Runs.OfActions.{of-runs}
use Rattle.merge_laws.proofs.laws.received_change_numbers_are_the_last_that_acted.Goals as goal

pub returns : goal.returns
returns c = record {
  number = of-runs (λ publication says m. ReceivedNumberIsDone m) number-is-done;
  unmet = of-runs (λ publication says m. UnmetIsDone m) unmet-is-done;
  kept = of-runs (λ publication says m. ClosingsKeepTheLast m) closings-keep-the-last;
  told = of-runs (λ publication says m. UploadsTellTheLast m) uploads-tell-the-last;
}
