use Rattle.merge_table.proofs.Slots.{keys-remove_entry}
use Rattle.merge_join.proofs.index.JoinIndex.remove.Goals as goal

pub returns-clause-set : goal.returns-clause-set
returns-clause-set c = rw (c.remove.ensures.rows, ← c.self.view_is) (keys-remove_entry _ c.self.inside.entries.rows)

pub returns-clause-slots : goal.returns-clause-slots
returns-clause-slots c = rw (← c.self.view_is) c.remove.ensures.slots
