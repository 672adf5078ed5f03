use Rattle.std.specs.Prelude.{◌≡◌, ◌++◌}
use Rattle.std.specs.Vec.Iter.{into_iter_items}
use Rattle.merge_steps.proofs.acting.append.Given as goal

-- what was added and what is left are all
abbrev pub invariant-loop-row : goal.invariant-loop-row
invariant-loop-row l = l.rows ++ into_iter_items l.row-iterator ≡ l.initial.rows ++ l.fn.more
