use Rattle.std.proofs.Common.{◌≡◌, ◌++◌, map, take}
use Rattle.merge_ports.specs.Entries.{change_of}
use Rattle.merge_keeper.proofs.edits.add_all.Given as goal

abbrev pub invariant-loop-change : goal.invariant-loop-change
invariant-loop-change g l = map change_of l.edits.items ≡ map change_of l.fn.edits.items ++ map g.T.Recorded.change (take l.change-index l.changes)
