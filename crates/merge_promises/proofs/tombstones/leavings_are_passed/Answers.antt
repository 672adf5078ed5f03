use Rattle.merge_model.specs.Failing.Runs.{model_behind, model_behind_actions}
use Rattle.merge_promises.proofs.DroppedRows.{all-left-passed}
use Rattle.merge_promises.proofs.tombstones.leavings_are_passed.Goals as goal

pub returns : goal.returns
returns c = record {
  runs = λ resolvers publication valid says tallies slips events.
      all-left-passed publication says (model_behind publication says tallies slips events) (c.promises_hold.ensures.model resolvers publication valid says tallies slips events);
  actions = λ resolvers publication valid says tallies slips actions.
      all-left-passed publication says (model_behind_actions publication says tallies slips actions) (c.promises_hold_of_actions.ensures.model resolvers publication valid says tallies slips actions);
}
