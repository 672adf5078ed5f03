use Rattle.merge_sub.proofs.Counted.{end_counting}
use Rattle.merge_sub.proofs.counting.count_changed.Goals as goal

pub returns : goal.returns
returns c =
    end_counting c.args.rows.now.rows c.args.from c.args.to c.args.index.now.entries c.requires.indexed c.is_ordered.ensures.rows c.loop-entry.count (rw c.in-None.ensures.steps.0 at c.loop-entry.invariant)
