use Rattle.std.specs.FinSet as set
use Rattle.std.specs.Prelude.{◌≡◌, drop}
use Rattle.merge_gens.specs.Index.{entries_after_all}
use Rattle.merge_sub.specs.Restoring.{rows_puts}
use Rattle.merge_sub.proofs.starting.index_of.Given as goal

abbrev pub invariant-loop-key : goal.invariant-loop-key
invariant-loop-key l = entries_after_all l.index.entries (rows_puts (drop l.key-index l.rows)) ≡ entries_after_all set.empty (rows_puts l.rows)
