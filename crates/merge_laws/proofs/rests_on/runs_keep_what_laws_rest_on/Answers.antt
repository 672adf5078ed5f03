use Rattle.merge_laws.specs.Laws.RestsOn.{ChainsAreAccounted, HeldWereGranted, MomentsAreInStep, ReceivedIsInStep, RepliesAreTrue, SitesAreEqual}
use Rattle.merge_laws.proofs.Runs.OfActions.{of-runs, of-valid-runs}
use Rattle.merge_laws.proofs.Runs.RestsOnKept.{accepted-known, chains-accounted, held-granted-always, known-accepted, moments-step, received-step, replies-true, sites-equal}
use Rattle.merge_laws.proofs.rests_on.runs_keep_what_laws_rest_on.Goals as goal

pub returns : goal.returns
returns c = record {
  accepted = known-accepted;
  known = accepted-known;
  chains = of-valid-runs (λ publication says m. ChainsAreAccounted publication m) chains-accounted;
  equal = of-valid-runs (λ publication says m. SitesAreEqual publication m) sites-equal;
  replies = of-valid-runs (λ publication says m. RepliesAreTrue publication m) replies-true;
  moments = of-valid-runs (λ publication says m. MomentsAreInStep m) moments-step;
  received = of-runs (λ publication says m. ReceivedIsInStep m) received-step;
  held = of-valid-runs (λ publication says m. HeldWereGranted m) held-granted-always;
}
