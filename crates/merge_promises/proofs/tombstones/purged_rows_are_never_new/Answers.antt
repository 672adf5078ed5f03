use Rattle.merge_model.specs.Failing.Runs.{model_behind, model_behind_actions}
use Rattle.merge_laws.proofs.Lineages.LineagesAlways.{kept-always, kept-by-actions}
use Rattle.merge_promises.proofs.NeverNew.{accepted-never, held-never}
use Rattle.merge_promises.proofs.tombstones.purged_rows_are_never_new.Goals as goal

pub returns : goal.returns
returns c = record {
  held = λ resolvers publication valid says tallies slips events.
      held-never publication (model_behind publication says tallies slips events) (kept-always publication (resolvers, valid) says tallies slips events);
  accepted = λ resolvers publication valid says tallies slips events.
      accepted-never publication (model_behind publication says tallies slips events) (kept-always publication (resolvers, valid) says tallies slips events);
  held_by_actions = λ resolvers publication valid says tallies slips actions.
      held-never publication (model_behind_actions publication says tallies slips actions) (kept-by-actions publication (resolvers, valid) says tallies slips actions);
  accepted_by_actions = λ resolvers publication valid says tallies slips actions.
      accepted-never publication (model_behind_actions publication says tallies slips actions) (kept-by-actions publication (resolvers, valid) says tallies slips actions);
}
