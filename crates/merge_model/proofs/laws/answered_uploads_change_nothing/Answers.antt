use Rattle.merge_model.proofs.Runs.Events.{answered_upload}
use Rattle.merge_model.proofs.laws.answered_uploads_change_nothing.Goals as goal

pub returns : goal.returns
returns c = answered_upload
