-- the greatest of those so far
use Rattle.std.proofs.Common.{◌≡◌, max, take}
use Rattle.std.specs.List.{fold}
use Rattle.merge_change.proofs.checks.greatest.Given as goal

abbrev pub invariant-loop-counter : goal.invariant-loop-counter
invariant-loop-counter l = l.greatest ≡ fold max 0 (take l.counter-index l.counters)
