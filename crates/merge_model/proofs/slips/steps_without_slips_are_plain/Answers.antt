use Rattle.merge_model.specs.World.Events.{machine}
use Rattle.merge_model.specs.History.Model.{model}
use Rattle.merge_model.proofs.Failing.NoSlips.{none-fails}
use Rattle.merge_model.proofs.slips.steps_without_slips_are_plain.Goals as goal

pub returns : goal.returns
returns c = record {
  machine = λ publication says w slips events none. (let run = none-fails publication (machine publication says) w slips events none in (run.0, run.1.0));
  model = λ publication says m slips events none. (let run = none-fails publication (model publication says) m slips events none in (run.0, run.1.0));
}
