use Rattle.merge_model.proofs.Failing.Calling.{calls-since}
use Rattle.merge_model.proofs.slips.calls_are_steps.Goals as goal

pub returns : goal.returns
returns c = calls-since
