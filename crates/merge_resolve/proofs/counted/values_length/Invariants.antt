use Rattle.std.proofs.Common.{◌≡◌, min, take, ◌^◌, ◌-◌}
use Rattle.merge_types.specs.Length.{row_length}
use Rattle.merge_resolve.proofs.counted.values_length.Given as goal

-- the bytes so far
abbrev pub invariant-loop-value : goal.invariant-loop-value
invariant-loop-value l = l.total ≡ min (row_length (take l.value-index l.values)) (2 ^ 64 - 1)
