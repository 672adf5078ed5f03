use Rattle.merge_laws.specs.Facts.Knowledge.{KnownWereMade, MadeAreNumbered}
use Rattle.merge_laws.proofs.Runs.LawsOfActions.{known-were-made, made-are-numbered}
use Rattle.merge_laws.proofs.Runs.OfActions.{of-runs}
use Rattle.merge_laws.proofs.laws.known_changes_were_made.Goals as goal

pub returns : goal.returns
returns c = record {
  numbered = of-runs (λ publication says m. MadeAreNumbered m) made-are-numbered;
  known = of-runs (λ publication says m. KnownWereMade m) known-were-made;
}
