use Rattle.merge_model.specs.World.Events.{machine}
use Rattle.merge_model.specs.History.Model.{model}
use Rattle.merge_model.proofs.Failing.NoSlips.{failures-show}
use Rattle.merge_model.proofs.slips.steps_that_fail_show.Goals as goal

pub returns : goal.returns
returns c = record {
  machine = λ publication says w slips events none. failures-show publication (machine publication says) w slips events none;
  model = λ publication says m slips events none. failures-show publication (model publication says) m slips events none;
}
