use Rattle.std.proofs.Common.{◌≡◌, ◌+◌, ◌++◌, length, vec_len, vec_capacity}
use Rattle.std.specs.Vec.Iter.{into_iter_items}
use Rattle.merge_conflict.proofs.table.append.Given as goal

-- what was added and what is left are all
abbrev pub invariant-loop-row : goal.invariant-loop-row
invariant-loop-row l = record {
  items : l.rows.items ++ into_iter_items l.row-iterator ≡ l.initial.rows.items ++ l.fn.more.items;
  len : vec_len l.rows + length (into_iter_items l.row-iterator) ≡ vec_len l.initial.rows + length l.fn.more.items;
  capacity : vec_capacity l.rows ≡ vec_capacity l.initial.rows;
}
