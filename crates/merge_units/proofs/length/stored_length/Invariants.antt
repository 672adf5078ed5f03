use Rattle.std.proofs.Common.{◌≡◌, min, take, ◌^◌, ◌-◌}
use Rattle.merge_units.specs.Length.{stored_length}
use Rattle.merge_units.proofs.length.stored_length.Given as goal

-- what those so far count
abbrev pub invariant-loop-cell : goal.invariant-loop-cell
invariant-loop-cell l = l.total ≡ min (stored_length (take l.cell-index l.cells)) (2 ^ 64 - 1)
