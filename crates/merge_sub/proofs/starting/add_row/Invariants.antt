use Rattle.std.specs.Prelude.{◌≡◌, drop, map}
use Rattle.merge_gens.specs.Index.{entries_after_all}
use Rattle.merge_sub.specs.Local.{put_entry}
use Rattle.merge_sub.proofs.starting.add_row.Given as goal

abbrev pub invariant-loop-generation : goal.invariant-loop-generation
invariant-loop-generation l = entries_after_all l.index.entries (map (put_entry l.key) (drop l.generation-index l.generations)) ≡ entries_after_all l.fn.index.entries (map (put_entry l.key) l.generations)
