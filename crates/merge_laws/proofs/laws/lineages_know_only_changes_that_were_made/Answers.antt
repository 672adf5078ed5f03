use Rattle.merge_laws.specs.Laws.{KnowsOnlyMade}
use Rattle.merge_laws.proofs.Runs.LawsOfActions.{knows-only-made}
use Rattle.merge_laws.proofs.Runs.OfActions.{of-runs}
use Rattle.merge_laws.proofs.laws.lineages_know_only_changes_that_were_made.Goals as goal

pub returns : goal.returns
returns c = of-runs (λ publication says m. KnowsOnlyMade m) knows-only-made
