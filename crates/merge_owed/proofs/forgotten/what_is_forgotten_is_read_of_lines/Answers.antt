use Rattle.merge_laws.proofs.Runs.OfActions.{of-runs, of-valid-runs}
use Rattle.merge_owed.specs.Forgotten.{JoinsForgetByLines, PurgesAnswerByLines, PurgesForgetByLines, TombstonesAreOldByLines}
use Rattle.merge_owed.proofs.ForgottenByLines.{joins-forget, purges-forget, tombstones-old}
use Rattle.merge_owed.proofs.PurgesCount.{purges-answer}
use Rattle.merge_owed.proofs.forgotten.what_is_forgotten_is_read_of_lines.Goals as goal

pub returns : goal.returns
returns c = record {
  joins = of-runs (λ publication says m. JoinsForgetByLines m) joins-forget;
  purges = of-valid-runs PurgesForgetByLines purges-forget;
  tombstones = of-valid-runs TombstonesAreOldByLines tombstones-old;
  counts = of-valid-runs PurgesAnswerByLines purges-answer;
}
