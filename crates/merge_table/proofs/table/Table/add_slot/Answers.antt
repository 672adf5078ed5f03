use Rattle.std.proofs.Common.{◌≡◌, false, length, sym, ap, ◌∙◌}
use Rattle.std.specs.Map.{keys_of}
use Rattle.merge_table.specs.Contents.{has_room}
use Rattle.merge_table.proofs.Room.{has_room-made, has_room-kept}
use Rattle.merge_table.proofs.Slots.{rows-room, keys-insert_entry}
use Rattle.merge_table.proofs.table.Table.add_slot.Goals as goal

pub invariant_of-self-2 : goal.invariant_of-self-2
invariant_of-self-2 g c =
    let absent : has_room g.K.Ord.cmp (keys_of c.self.inside.slots.entries) c.args.key ≡ false = rw (← c.self.view_is) at c.requires in
    record {
      ordered = c.insert.ensures.ordered;
      counted = rw c.in_ok-insert.ensures.entries (c.self.invariant.counted ∙ ap length (sym (rows-room _ _ c.self.inside.slots.entries absent)));
    }

pub returns-clause-rows : goal.returns-clause-rows
returns-clause-rows g c =
    let absent : has_room g.K.Ord.cmp (keys_of c.self.inside.slots.entries) c.args.key ≡ false = rw (← c.self.view_is) at c.requires in
    rw (← c.self.view_is, c.in_ok-insert.ensures.entries) (rows-room _ _ c.self.inside.slots.entries absent)

pub returns-clause-ok : goal.returns-clause-ok
returns-clause-ok g c = rw (← c.self.view_is, c.in_ok-insert.ensures.entries) (keys-insert_entry _ _ _ c.self.inside.slots.entries)

pub returns-clause-room : goal.returns-clause-room
returns-clause-room g c = rw (c.in_ok-insert.ensures.entries, keys-insert_entry _ _ _ c.self.inside.slots.entries) (has_room-made _ g.met.K.Ord.total _ _)

pub returns-clause-kept : goal.returns-clause-kept
returns-clause-kept g c = λ q held.
    rw (c.in_ok-insert.ensures.entries, keys-insert_entry _ _ _ c.self.inside.slots.entries) (has_room-kept _ g.met.K.Ord.total _ q _ (rw (← c.self.view_is) at held))
