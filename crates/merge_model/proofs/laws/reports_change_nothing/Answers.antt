use Rattle.merge_model.specs.World.Events.{machine}
use Rattle.merge_model.specs.History.Model.{model}
use Rattle.merge_model.proofs.Runs.Reports.{report-looks}
use Rattle.merge_model.proofs.laws.reports_change_nothing.Goals as goal

pub returns : goal.returns
returns c = record {
  world = λ publication says w e is. report-looks publication (machine publication says) w e is;
  history = λ publication says m e is. report-looks publication (model publication says) m e is;
}
