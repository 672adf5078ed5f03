use Rattle.merge_promises.proofs.RangesGranted.{ranges-granted-always, ranges-granted-by-actions, told-granted-always, told-granted-by-actions}
use Rattle.merge_promises.proofs.ranges.held_ranges_were_granted.Goals as goal

pub returns : goal.returns
returns c = record { held = ranges-granted-always; told = told-granted-always; held_by_actions = ranges-granted-by-actions; told_by_actions = told-granted-by-actions }
