use Rattle.merge_model.specs.Laws.Promises.{IdentitiesApart}
use Rattle.merge_laws.specs.Facts.Identities.{TakenWereGranted}
use Rattle.merge_laws.proofs.Runs.LawsOfActions.{identities-apart, taken-were-granted}
use Rattle.merge_laws.proofs.Runs.OfActions.{of-ruled-runs}
use Rattle.merge_laws.proofs.laws.identity_values_are_taken_once.Goals as goal

pub returns-clause-apart : goal.returns-clause-apart
returns-clause-apart c = of-ruled-runs IdentitiesApart identities-apart

pub returns-clause-granted : goal.returns-clause-granted
returns-clause-granted c = of-ruled-runs TakenWereGranted taken-were-granted
