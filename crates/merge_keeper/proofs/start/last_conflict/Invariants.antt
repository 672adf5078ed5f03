use Rattle.std.proofs.Common.{◌≡◌}
use Rattle.merge_keeper.specs.Start.{last_conflict_behind}
use Rattle.merge_keeper.proofs.start.last_conflict.Given as goal

abbrev pub invariant-loop-key : goal.invariant-loop-key
invariant-loop-key l = last_conflict_behind l.last l.key-iterator ≡ last_conflict_behind 0 l.initial.key-iterator
