use Rattle.std.proofs.Common.{sym, ◌∙◌}
use Rattle.std.proofs.lemmas.Map.{keys-set_value}
use Rattle.merge_table.proofs.Slots.{lookup-rows, rows-unset, rows-remove}
use Rattle.merge_table.proofs.Counts.{taken_le, count-taken}
use Rattle.merge_table.proofs.table.Table.take.Goals as goal

pub overflow_sub-self : goal.overflow_sub-self
overflow_sub-self g c = taken_le _ c.self.inside.slots.entries _ _ _ c.self.invariant.counted c.swap-row.ensures.old c.rows_in.ensures

pub invariant_of-self : goal.invariant_of-self
invariant_of-self g c = record {
  ordered = c.swap-row.ensures.ordered;
  counted = rw (c.swap-row.ensures.entries, rows-unset g.K.Ord.cmp c.args.key.now c.self.inside.slots.entries) (count-taken _ c.self.inside.slots.entries _ _ _ c.self.invariant.counted c.swap-row.ensures.old c.rows_in.ensures);
}

pub returns-clause-old : goal.returns-clause-old
returns-clause-old g c = rw (← c.self.view_is) (c.swap-row.ensures.old ∙ sym (lookup-rows _ g.met.K.Ord.total _ c.self.inside.slots.entries c.self.invariant.ordered))

pub returns-clause-rows : goal.returns-clause-rows
returns-clause-rows g c =
    rw (← c.self.view_is, c.swap-row.ensures.entries) (rows-unset g.K.Ord.cmp c.args.key.now c.self.inside.slots.entries ∙ rows-remove _ g.met.K.Ord.total _ c.self.inside.slots.entries c.self.invariant.ordered)

pub returns-clause-slots : goal.returns-clause-slots
returns-clause-slots g c = rw (← c.self.view_is, c.swap-row.ensures.entries) (keys-set_value _ c.self.inside.slots.entries _)
