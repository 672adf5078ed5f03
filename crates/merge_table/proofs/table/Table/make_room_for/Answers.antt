use Rattle.std.proofs.Common.{sym, ◌∙◌}
use Rattle.merge_table.proofs.Room.{insert_key-held}
use Rattle.merge_table.proofs.table.Table.make_room_for.Goals as goal

pub returns-then-has_room-clause-ok : goal.returns-then-has_room-clause-ok
returns-then-has_room-clause-ok g c = rw c.in-Put.is (sym (insert_key-held _ g.met.K.Ord.total _ _ c.has_room.ensures.ordered (sym c.has_room.ensures.room ∙ c.if-has_room.true)))
