use Rattle.std.specs.Map.{keys_of}
use Rattle.merge_steps.proofs.MoveWalks.{Walking}
use Rattle.merge_steps.proofs.move_walk.add_moved.Given as goal

abbrev pub invariant-loop-entry : goal.invariant-loop-entry
invariant-loop-entry l = Walking l.site l.first l.to (keys_of l.moved.rows) l.initial.keys.items l.keys.items (keys_of l.entry-iterator)
