use Rattle.std.specs.Prelude.{◌≡◌, ◌++◌, take}
use Rattle.merge_world.proofs.rows.add_values.Given as goal

abbrev pub invariant-loop-value : goal.invariant-loop-value
invariant-loop-value l = l.values ≡ l.fn.values ++ take l.value-index l.more
