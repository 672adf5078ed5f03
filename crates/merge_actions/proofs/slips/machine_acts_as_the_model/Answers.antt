use Rattle.merge_laws.proofs.Lineages.LineagesAlways.{actions-same}
use Rattle.merge_actions.proofs.slips.machine_acts_as_the_model.Goals as goal

pub returns : goal.returns
returns c = record {
  outcomes = λ resolvers publication valid says tallies slips actions. (actions-same publication (resolvers, valid) says tallies slips actions).0;
  tables = λ resolvers publication valid says tallies slips actions. (actions-same publication (resolvers, valid) says tallies slips actions).1;
}
