use Rattle.merge_laws.proofs.Lineages.LineagesAlways.{answers-same, plain-answers-same, plain-worlds-same, worlds-same}
use Rattle.merge_laws.proofs.laws.machine_answers_as_the_model.Goals as goal

pub returns : goal.returns
returns c = record {
  answers = λ resolvers publication valid says tallies events. plain-answers-same publication (resolvers, valid) says tallies events;
  tables = λ resolvers publication valid says tallies events. plain-worlds-same publication (resolvers, valid) says tallies events;
  failing_answers = λ resolvers publication valid says tallies slips events. answers-same publication (resolvers, valid) says tallies slips events;
  failing_tables = λ resolvers publication valid says tallies slips events. worlds-same publication (resolvers, valid) says tallies slips events;
}
