use Rattle.merge_resolve.proofs.Ranges.{i64_ranges}
use Rattle.merge_resolve.proofs.typed.int_is_typed.Goals as goal

pub returns : goal.returns
returns c = i64_ranges c.args.number c.ranges.number
