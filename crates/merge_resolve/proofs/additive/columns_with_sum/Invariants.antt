use Rattle.std.proofs.Common.{◌≡◌, ◌++◌, drop, map}
use Rattle.merge_resolve.specs.Sums.{column_after}
use Rattle.merge_resolve.proofs.additive.columns_with_sum.Given as goal

-- the values so far and those of what is left are those of all
abbrev pub invariant-loop-place : goal.invariant-loop-place
invariant-loop-place l =
    l.values.items ++ map (column_after l.kind l.winner l.column l.sum) (drop l.place-index l.cells) ≡ map (column_after l.kind l.winner l.column l.sum) l.cells
