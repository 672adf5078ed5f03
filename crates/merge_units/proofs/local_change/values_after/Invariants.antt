use Rattle.std.proofs.Common.{◌≡◌, map, take}
use Rattle.std.specs.List.{enumerate_from}
use Rattle.merge_units.specs.Changes.{value_after}
use Rattle.merge_units.proofs.local_change.values_after.Given as goal

-- the values after the edits so far
abbrev pub invariant-loop-edit : goal.invariant-loop-edit
invariant-loop-edit l = l.after.items ≡ map (value_after (take l.edit-index l.edits)) (enumerate_from 0 l.values)
