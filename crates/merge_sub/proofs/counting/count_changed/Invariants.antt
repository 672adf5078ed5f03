use Rattle.std.specs.Map.{keys_of}
use Rattle.merge_sub.proofs.Counted.{Counting}
use Rattle.merge_sub.proofs.counting.count_changed.Given as goal

abbrev pub invariant-loop-entry : goal.invariant-loop-entry
invariant-loop-entry l = Counting l.rows.rows l.from l.to l.index.entries l.count (keys_of l.entry-iterator)
