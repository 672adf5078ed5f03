use Rattle.std.proofs.Common.{◌≡◌, map, take}
use Rattle.std.specs.List.{enumerate_from}
use Rattle.merge_units.specs.Changes.{cell_after}
use Rattle.merge_units.proofs.local_change.columns_after.Given as goal

-- the cells after the edits so far
abbrev pub invariant-loop-edit : goal.invariant-loop-edit
invariant-loop-edit l = l.after.items ≡ map (cell_after l.dot (take l.edit-index l.edits)) (enumerate_from 0 l.cells)
