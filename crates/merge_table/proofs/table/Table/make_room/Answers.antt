use Rattle.std.proofs.Common.{◌≡◌, true, false, sym, ◌∙◌}
use Rattle.std.specs.Map.{keys_of}
use Rattle.std.proofs.lemmas.Map.Made.{is_some-lookup}
use Rattle.merge_table.specs.Contents.{has_room}
use Rattle.merge_table.proofs.Room.{insert_key-held}
use Rattle.merge_table.proofs.table.Table.make_room.Goals as goal

pub returns-then-contains_key-clause-ok : goal.returns-then-contains_key-clause-ok
returns-then-contains_key-clause-ok g c =
    rw (← c.self.view_is) (sym (insert_key-held _ g.met.K.Ord.total _ _ c.self.invariant.ordered (sym (is_some-lookup _ c.self.inside.slots.entries) ∙ sym c.contains_key.ensures ∙ c.if-contains_key.true)))

pub returns-then-contains_key-clause-room : goal.returns-then-contains_key-clause-room
returns-then-contains_key-clause-room g c =
    rw (← c.self.view_is) (sym (is_some-lookup _ c.self.inside.slots.entries) ∙ sym c.contains_key.ensures ∙ c.if-contains_key.true)

pub add_slot-requires : goal.add_slot-requires
add_slot-requires g c =
    rw (← c.self.view_is) (sym (is_some-lookup _ c.self.inside.slots.entries) ∙ sym c.contains_key.ensures ∙ c.if-contains_key.false)

pub returns-clause-succeeds : goal.returns-clause-succeeds
returns-clause-succeeds g c = λ room.
    let absent : has_room g.K.Ord.cmp (keys_of c.self.inside.slots.entries) c.args.key ≡ false = sym (is_some-lookup _ c.self.inside.slots.entries) ∙ sym c.contains_key.ensures ∙ c.if-contains_key.false in
    let present : has_room g.K.Ord.cmp (keys_of c.self.inside.slots.entries) c.args.key ≡ true = rw (← c.self.view_is) at room in
    absurd cc
