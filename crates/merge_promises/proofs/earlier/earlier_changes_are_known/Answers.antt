use Rattle.merge_model.specs.Failing.Runs.{model_behind, model_behind_actions}
use Rattle.merge_laws.proofs.Lineages.LineagesAlways.{kept-always, kept-by-actions}
use Rattle.merge_promises.proofs.EarlierKnown.{every-earlier, held-earlier}
use Rattle.merge_promises.proofs.earlier.earlier_changes_are_known.Goals as goal

pub returns : goal.returns
returns c = record {
  every = λ resolvers publication valid says tallies slips events.
      every-earlier publication (model_behind publication says tallies slips events) (kept-always publication (resolvers, valid) says tallies slips events);
  held = λ resolvers publication valid says tallies slips events.
      held-earlier publication (model_behind publication says tallies slips events) (kept-always publication (resolvers, valid) says tallies slips events);
  every_by_actions = λ resolvers publication valid says tallies slips actions.
      every-earlier publication (model_behind_actions publication says tallies slips actions) (kept-by-actions publication (resolvers, valid) says tallies slips actions);
  held_by_actions = λ resolvers publication valid says tallies slips actions.
      held-earlier publication (model_behind_actions publication says tallies slips actions) (kept-by-actions publication (resolvers, valid) says tallies slips actions);
}
