use Rattle.std.proofs.Common.{take}
use Rattle.merge_units.specs.Changes.{ColumnsAscend}
use Rattle.merge_units.proofs.conditions.columns_ascend.Given as goal

-- the columns so far ascend
abbrev pub invariant-loop-at : goal.invariant-loop-at
invariant-loop-at l = ColumnsAscend (take l.at l.edits)
