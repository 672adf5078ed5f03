use Rattle.std.proofs.Common.{◌≡◌, ◌++◌, drop}
use Rattle.merge_resolve.specs.Counted.{own_placed}
use Rattle.merge_resolve.proofs.counted.own_placed.Given as goal

-- the values so far and those of what is left are those of all
abbrev pub invariant-loop-at : goal.invariant-loop-at
invariant-loop-at l = l.kept.items ++ own_placed l.identity l.own (drop l.at l.cells) (drop l.at l.values) ≡ own_placed l.identity l.own l.cells l.values
