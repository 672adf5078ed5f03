use Rattle.merge_laws.proofs.Runs.RestsOnKept.{accepted-known-by-actions, chains-accounted, held-granted-always, known-accepted-by-actions, moments-step, received-step, replies-true, sites-equal}
use Rattle.merge_actions.proofs.decisions.actions_keep_what_laws_rest_on.Goals as goal

pub returns : goal.returns
returns c = record {
  accepted = known-accepted-by-actions;
  known = accepted-known-by-actions;
  chains = chains-accounted;
  equal = sites-equal;
  replies = replies-true;
  moments = moments-step;
  received = received-step;
  held = held-granted-always;
}
