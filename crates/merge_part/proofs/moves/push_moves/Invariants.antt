use Rattle.std.proofs.Common.{◌≡◌, ◌++◌, drop}
use Rattle.merge_part.specs.Moves.{moves_from}
use Rattle.merge_part.proofs.moves.push_moves.Given as goal

abbrev pub invariant-loop-place : goal.invariant-loop-place
invariant-loop-place l = l.moves.items ++ moves_from l.key l.place (drop l.place l.subscriptions) l.before l.after ≡ l.fn.moves.items ++ moves_from l.key 0 l.subscriptions l.before l.after
