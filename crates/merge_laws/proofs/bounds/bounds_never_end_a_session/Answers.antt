use Rattle.merge_laws.specs.Laws.Bounds.{DownloadsAreEnough, UploadsAreEnough}
use Rattle.merge_laws.proofs.Sessions.BoundsEnough.{downloads-enough, uploads-enough}
use Rattle.merge_laws.proofs.Runs.OfActions.{of-valid-runs}
use Rattle.merge_laws.proofs.bounds.bounds_never_end_a_session.Goals as goal

pub returns : goal.returns
returns c = record {
  uploads = of-valid-runs UploadsAreEnough uploads-enough;
  downloads = of-valid-runs DownloadsAreEnough downloads-enough;
}
