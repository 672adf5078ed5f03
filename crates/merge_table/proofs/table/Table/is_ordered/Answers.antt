use Rattle.merge_table.proofs.Ranges.{sorted-rows}
use Rattle.merge_table.proofs.Slots.{rows-room_all}
use Rattle.merge_table.proofs.table.Table.is_ordered.Goals as goal

pub returns-clause-rows : goal.returns-clause-rows
returns-clause-rows g c = rw (← c.self.view_is) (sorted-rows _ c.self.inside.slots.entries c.self.invariant.ordered)

pub returns-clause-room : goal.returns-clause-room
returns-clause-room g c = rw (← c.self.view_is) (rows-room_all _ g.met.K.Ord.total c.self.inside.slots.entries)
