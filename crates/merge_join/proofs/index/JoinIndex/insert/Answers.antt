use Rattle.merge_table.proofs.Slots.{keys-insert_entry}
use Rattle.merge_join.specs.Entries.{entry_cmp}
use Rattle.merge_join.proofs.index.JoinIndex.insert.Goals as goal

pub returns-clause-ok : goal.returns-clause-ok
returns-clause-ok c = rw (c.in_ok-insert.ensures.rows, ← c.self.view_is) (keys-insert_entry entry_cmp c.args.entry tt c.self.inside.entries.rows)

pub returns-clause-slots : goal.returns-clause-slots
returns-clause-slots c = rw (← c.self.view_is) c.in_ok-insert.ensures.slots
