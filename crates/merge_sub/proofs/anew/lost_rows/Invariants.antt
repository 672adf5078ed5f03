use Rattle.std.specs.Vec.Iter.{into_iter_items}
use Rattle.merge_sub.proofs.Anewly.{Losing}
use Rattle.merge_sub.proofs.anew.lost_rows.Given as goal

abbrev pub invariant-loop-item : goal.invariant-loop-item
invariant-loop-item l = Losing l.discarding l.fn.number l.fn.items l.lost l.number (into_iter_items l.item-iterator)
