use Rattle.std.proofs.Common.{◌≡◌, ◌++◌, take, map}
use Rattle.merge_steps.specs.Tie as tie
use Rattle.merge_steps.specs.Working as work
use Rattle.merge_steps.proofs.entries.entry_edits.Given as goal

abbrev pub invariant-loop-one : goal.invariant-loop-one
invariant-loop-one l = l.edits.items ≡ map work.move_edit (tie.told_moves l.changed.slots (take l.one-index l.moves))

abbrev pub invariant-loop-key : goal.invariant-loop-key
invariant-loop-key l = l.edits.items ≡ map work.move_edit (tie.told_moves l.changed.slots l.moves) ++ map (work.left_edit l.site) (take l.key-index l.outs)
