use Rattle.merge_resolve.proofs.Ranges.{i32_ranges}
use Rattle.merge_resolve.proofs.typed.day_is_typed.Goals as goal

pub returns : goal.returns
returns c = i32_ranges c.args.day c.ranges.day
