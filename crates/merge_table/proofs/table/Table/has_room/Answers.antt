use Rattle.std.proofs.Common.{◌∙◌}
use Rattle.std.proofs.lemmas.Map.Made.{is_some-lookup}
use Rattle.merge_table.proofs.Slots.{rows-room_all}
use Rattle.merge_table.proofs.table.Table.has_room.Goals as goal

pub returns-clause-room : goal.returns-clause-room
returns-clause-room g c = rw (← c.self.view_is) (c.contains_key.ensures ∙ is_some-lookup _ c.self.inside.slots.entries)

pub returns-clause-ordered : goal.returns-clause-ordered
returns-clause-ordered g c = rw (← c.self.view_is) c.self.invariant.ordered

pub returns-clause-rows : goal.returns-clause-rows
returns-clause-rows g c = rw (← c.self.view_is) (rows-room_all _ g.met.K.Ord.total c.self.inside.slots.entries)
