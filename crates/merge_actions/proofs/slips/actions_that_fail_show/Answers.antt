use Rattle.merge_model.specs.World.Events.{machine}
use Rattle.merge_model.specs.History.Model.{model}
use Rattle.merge_actions.proofs.Plainly.{failures-show, none-fails}
use Rattle.merge_actions.proofs.slips.actions_that_fail_show.Goals as goal

pub returns : goal.returns
returns c = record {
  machine = λ publication says w slips actions none. none-fails publication (machine publication says) w slips actions none;
  model = λ publication says m slips actions none. none-fails publication (model publication says) m slips actions none;
  machine_shows = λ publication says w slips actions none. failures-show publication (machine publication says) w slips actions none;
  model_shows = λ publication says m slips actions none. failures-show publication (model publication says) m slips actions none;
}
