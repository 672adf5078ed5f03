use Rattle.merge_model.specs.Publisher.{new_holders}
use Rattle.merge_stored.specs.AnySteps.{after_steps}
use Rattle.merge_stored.specs.Stored.{subscriber_stored}
use Rattle.merge_stored.proofs.AnyReply.Laws.{steps-keep}
use Rattle.merge_stored.proofs.replies.any_steps_load.Goals as goal

pub returns : goal.returns
returns c = record {
  rules = steps-keep;
  loads = λ resolvers publication valid s k steps fit.
      c.stored_tables_load.ensures publication (new_holders publication) (subscriber_stored (after_steps publication s steps)) (steps-keep resolvers publication valid s k steps fit).rules;
}
