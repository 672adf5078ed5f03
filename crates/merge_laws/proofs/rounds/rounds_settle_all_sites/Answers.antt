use Rattle.merge_laws.specs.Laws.Rounds.{RoundSettles}
use Rattle.merge_laws.proofs.Sessions.RoundLaw.{round-settles}
use Rattle.merge_laws.proofs.Runs.OfActions.{of-valid-runs}
use Rattle.merge_laws.proofs.rounds.rounds_settle_all_sites.Goals as goal

pub returns : goal.returns
returns c = of-valid-runs (RoundSettles) round-settles
