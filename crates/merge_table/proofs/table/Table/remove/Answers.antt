use Rattle.std.proofs.Common.{sym, ap, ◌∙◌}
use Rattle.std.specs.Option.{option_flatten}
use Rattle.merge_table.proofs.Slots.{lookup-rows, rows-remove, keys-remove_entry}
use Rattle.merge_table.proofs.Counts.{taken_le, count-taken}
use Rattle.merge_table.proofs.table.Table.remove.Goals as goal

pub overflow_sub-self : goal.overflow_sub-self
overflow_sub-self g c =
    taken_le _ c.self.inside.slots.entries _ _ _ c.self.invariant.counted (c.flatten-old.ensures ∙ ap option_flatten c.remove.ensures.value) c.rows_in.ensures

pub invariant_of-self : goal.invariant_of-self
invariant_of-self g c = record {
  ordered = c.remove.ensures.ordered;
  counted = rw c.remove.ensures.entries (count-taken _ c.self.inside.slots.entries _ _ _ c.self.invariant.counted (c.flatten-old.ensures ∙ ap option_flatten c.remove.ensures.value) c.rows_in.ensures);
}

pub returns-clause-old : goal.returns-clause-old
returns-clause-old g c =
    rw (← c.self.view_is) (c.flatten-old.ensures ∙ ap option_flatten c.remove.ensures.value ∙ sym (lookup-rows _ g.met.K.Ord.total _ c.self.inside.slots.entries c.self.invariant.ordered))

pub returns-clause-rows : goal.returns-clause-rows
returns-clause-rows g c = rw (← c.self.view_is, c.remove.ensures.entries) (rows-remove _ g.met.K.Ord.total _ c.self.inside.slots.entries c.self.invariant.ordered)

pub returns-clause-slots : goal.returns-clause-slots
returns-clause-slots g c = rw (← c.self.view_is, c.remove.ensures.entries) (keys-remove_entry _ c.self.inside.slots.entries)
