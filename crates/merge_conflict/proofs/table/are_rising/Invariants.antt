use Rattle.std.proofs.Common.{◌↔◌, drop}
use Rattle.merge_conflict.specs.Rising.{AreRising, RiseAbove}
use Rattle.merge_conflict.proofs.table.are_rising.Given as goal

-- all rise just when those that are left do
abbrev pub invariant-loop-row : goal.invariant-loop-row
invariant-loop-row l = AreRising l.rows ↔ RiseAbove l.above (drop l.row-index l.rows)
