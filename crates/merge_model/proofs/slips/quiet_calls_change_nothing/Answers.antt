use Rattle.merge_model.proofs.Failing.Quiet.{closings-quiet, replies-quiet, requests-quiet, sub-closings-quiet}
use Rattle.merge_model.proofs.slips.quiet_calls_change_nothing.Goals as goal

pub returns : goal.returns
returns c = record {
  requests = requests-quiet;
  closings = closings-quiet;
  subscriber_closings = sub-closings-quiet;
  replies = replies-quiet;
}
