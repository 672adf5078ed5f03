use Rattle.merge_conflict.proofs.RisingRows.{rising_kept}
use Rattle.merge_conflict.proofs.table.ConflictTable.trim.Goals as goal

pub invariant_of-self : goal.invariant_of-self
invariant_of-self c = rw c.keep_from.ensures.items (rising_kept c.args.cutoff 0 _ c.self.invariant)
