use Rattle.merge_owed.proofs.ForgottenByLines.{joins-forget, purges-forget, tombstones-old}
use Rattle.merge_owed.proofs.PurgesCount.{purges-count}
use Rattle.merge_owed.proofs.RangesEnough.{ranges-enough}
use Rattle.merge_owed.proofs.ReportsTell.{publisher-tells, subscribers-tell}
use Rattle.merge_actions.proofs.owed.actions_forget_by_lines.Goals as goal

pub returns : goal.returns
returns c = record {
  joins = joins-forget;
  purges = purges-forget;
  tombstones = tombstones-old;
  counts = purges-count;
  publisher = publisher-tells;
  subscribers = subscribers-tell;
  ranges = ranges-enough;
}
