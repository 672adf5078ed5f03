use Rattle.std.specs.Map.{keys_of}
use Rattle.merge_gens.proofs.RowLists.{Walking}
use Rattle.merge_gens.proofs.index.add_rows_between.Given as goal

abbrev pub invariant-loop-entry : goal.invariant-loop-entry
invariant-loop-entry l = Walking l.from l.to (keys_of l.entries.rows) l.initial.rows.items l.rows.items (keys_of l.entry-iterator)
