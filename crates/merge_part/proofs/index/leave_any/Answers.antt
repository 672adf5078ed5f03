use Rattle.std.proofs.Common.{refl}
use Rattle.merge_part.proofs.Entries.{left_null}
use Rattle.merge_part.proofs.index.leave_any.Goals as goal

pub returns-in-None : goal.returns-in-None
returns-in-None c = rw c.in-None.is (left_null c.args.draft.now c.args.number _ c.args.row refl)
