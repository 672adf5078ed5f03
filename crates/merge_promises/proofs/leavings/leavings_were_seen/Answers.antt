use Rattle.merge_promises.proofs.LeavingRuns.{seen-always, seen-by-actions}
use Rattle.merge_promises.proofs.leavings.leavings_were_seen.Goals as goal

pub returns : goal.returns
returns c = record { runs = seen-always; actions = seen-by-actions }
