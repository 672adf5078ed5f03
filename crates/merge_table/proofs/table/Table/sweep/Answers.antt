use Rattle.std.proofs.Common.{◌∙◌, ap, sym, length}
use Rattle.merge_table.proofs.Ranges.{rows-swept, keys-swept}
use Rattle.merge_table.proofs.table.Table.sweep.Goals as goal

pub invariant_of-self : goal.invariant_of-self
invariant_of-self g c = record {
  ordered = c.drop_room.ensures.ordered;
  counted = rw c.drop_room.ensures.entries (c.self.invariant.counted ∙ ap length (sym (rows-swept c.self.inside.slots.entries)));
}

pub returns-clause-rows : goal.returns-clause-rows
returns-clause-rows g c = rw (← c.self.view_is, c.drop_room.ensures.entries) (rows-swept c.self.inside.slots.entries)

pub returns-clause-slots : goal.returns-clause-slots
returns-clause-slots g c = rw (← c.self.view_is, c.drop_room.ensures.entries) (keys-swept c.self.inside.slots.entries)
