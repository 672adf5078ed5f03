use Rattle.std.proofs.Common.{◌≡◌, take, map}
use Rattle.merge_steps.specs.Working as work
use Rattle.merge_steps.proofs.entries.row_changes.Given as goal

abbrev pub invariant-loop-one : goal.invariant-loop-one
invariant-loop-one l = l.changes ≡ map work.row_change (take l.one-index l.versions)
