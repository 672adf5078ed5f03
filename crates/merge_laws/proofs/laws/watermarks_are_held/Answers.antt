use Rattle.merge_laws.specs.Facts.Watermarks.{WatermarksAreHeld}
use Rattle.merge_laws.proofs.Runs.LawsOfActions.{watermarks-held}
use Rattle.merge_laws.proofs.Runs.OfActions.{of-runs}
use Rattle.merge_laws.proofs.laws.watermarks_are_held.Goals as goal

pub returns : goal.returns
returns c = of-runs (λ publication says m. WatermarksAreHeld m) watermarks-held
