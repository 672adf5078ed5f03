use Rattle.merge_table.proofs.Takes.{Collecting}
use Rattle.merge_table.proofs.table.Table.takes.Given as goal

abbrev pub invariant-loop-key : goal.invariant-loop-key
invariant-loop-key g l = Collecting (g.T.RowTest.passes l.test) l.edits.items l.key-iterator l.self.rows
