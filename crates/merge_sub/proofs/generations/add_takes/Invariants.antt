use Rattle.std.specs.Prelude.{◌≡◌, ◌++◌, drop, map}
use Rattle.merge_sub.specs.Local.{take_entry}
use Rattle.merge_sub.proofs.generations.add_takes.Given as goal

abbrev pub invariant-loop-generation : goal.invariant-loop-generation
invariant-loop-generation l = l.changes ++ map (take_entry l.key) (drop l.generation-index l.generations) ≡ l.fn.changes ++ map (take_entry l.key) l.generations
