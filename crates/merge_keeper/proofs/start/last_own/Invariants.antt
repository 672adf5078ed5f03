use Rattle.std.proofs.Common.{◌≡◌, drop}
use Rattle.merge_keeper.specs.Start.{last_own, last_own_behind}
use Rattle.merge_keeper.proofs.start.last_own.Given as goal

abbrev pub invariant-loop-own : goal.invariant-loop-own
invariant-loop-own l = last_own_behind l.article l.last (drop l.own-index l.owns) ≡ last_own l.article l.owns
