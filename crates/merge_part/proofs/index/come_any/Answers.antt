use Rattle.std.proofs.Common.{refl}
use Rattle.merge_part.proofs.Entries.{came_null}
use Rattle.merge_part.proofs.index.come_any.Goals as goal

pub returns-in-None : goal.returns-in-None
returns-in-None c = rw c.in-None.is (came_null c.args.draft.now c.args.number _ c.args.row refl)
