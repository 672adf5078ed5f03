use Rattle.std.proofs.Common.{◌≡◌, min, take, sum_by, ◌^◌, ◌-◌}
use Rattle.merge_types.specs.Length.{stored_length}
use Rattle.merge_types.proofs.values.Listing+Value.stored_len.Given as goal

-- of the values so far
abbrev pub invariant-loop-value : goal.invariant-loop-value
invariant-loop-value l = l.total ≡ min (sum_by stored_length (take l.value-index l.value-items)) (2 ^ 64 - 1)
