use Rattle.merge_model.proofs.Runs.Refused.{step_by-leaves}
use Rattle.merge_model.proofs.Runs.Reports.{model_step-leaves}
use Rattle.merge_model.proofs.laws.refusals_change_nothing.Goals as goal

pub returns : goal.returns
returns c = record { world = step_by-leaves; history = model_step-leaves }
