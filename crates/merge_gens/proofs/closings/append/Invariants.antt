use Rattle.std.proofs.Common.{◌≡◌, ◌+◌, ◌++◌, take, vec_len, vec_capacity}
use Rattle.merge_gens.proofs.closings.append.Given as goal

abbrev pub invariant-loop-closing : goal.invariant-loop-closing
invariant-loop-closing l = record {
  items : l.closings.items ≡ l.initial.closings.items ++ take l.closing-index l.more;
  len : vec_len l.closings ≡ vec_len l.initial.closings + l.closing-index;
  capacity : vec_capacity l.closings ≡ vec_capacity l.initial.closings;
}
