use Rattle.merge_model.specs.Laws.Promises.{AllAccounted}
use Rattle.merge_laws.proofs.Accounts.AccountsAlways.{no-change-is-lost}
use Rattle.merge_laws.proofs.Runs.OfActions.{of-valid-runs}
use Rattle.merge_laws.proofs.laws.no_change_is_lost.Goals as goal

pub returns : goal.returns
returns c = of-valid-runs (λ publication says m. AllAccounted m) no-change-is-lost
