use Rattle.std.specs.Prelude.{◌≡◌, ◌++◌, drop, map}
use Rattle.merge_sub.specs.Local.{put_entry}
use Rattle.merge_sub.proofs.generations.add_puts.Given as goal

abbrev pub invariant-loop-generation : goal.invariant-loop-generation
invariant-loop-generation l = l.changes ++ map (put_entry l.key) (drop l.generation-index l.generations) ≡ l.fn.changes ++ map (put_entry l.key) l.generations
