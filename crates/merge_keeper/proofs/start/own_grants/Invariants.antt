use Rattle.std.proofs.Common.{◌≡◌, ◌++◌, filter_map}
use Rattle.merge_keeper.specs.Start.{own_grant}
use Rattle.merge_keeper.proofs.start.own_grants.Given as goal

abbrev pub invariant-loop-key : goal.invariant-loop-key
invariant-loop-key l = l.owns.items ++ filter_map own_grant l.key-iterator ≡ filter_map own_grant l.initial.key-iterator
