use Rattle.std.proofs.Common.{length, ◌≡◌}
use Rattle.merge_table.specs.Contents.{rows_of}
use Rattle.merge_table.proofs.rows.RowsDoubleEndedIterator.next_back.Given as goal

abbrev pub invariant-loop-key : goal.invariant-loop-key
invariant-loop-key g l = rows_of l.self-inside.slots ≡ l.fn.self

abbrev pub decreases-loop-key : goal.decreases-loop-key
decreases-loop-key g l = length l.self-inside.slots
