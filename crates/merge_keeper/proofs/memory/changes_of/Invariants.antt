use Rattle.std.proofs.Common.{◌≡◌, map, take}
use Rattle.merge_ports.specs.Entries.{change_of}
use Rattle.merge_keeper.proofs.memory.changes_of.Given as goal

abbrev pub invariant-loop-edit : goal.invariant-loop-edit
invariant-loop-edit l = l.changes.items ≡ map change_of (take l.edit-index l.edits)
