use Rattle.std.proofs.Common.{sym, ◌∙◌, arith, Some}
use Rattle.std.proofs.lemmas.Map.{keys-set_value}
use Rattle.merge_table.proofs.Slots.{lookup-rows, set-insert, rows-insert}
use Rattle.merge_table.proofs.Counts.{length-rows_le, count-put}
use Rattle.merge_table.proofs.table.Table.put.Goals as goal

pub prove-unreachable-requires : goal.prove-unreachable-requires
prove-unreachable-requires g c = omega (arith, length-rows_le c.self.inside.slots.entries, c.self.invariant.counted, c.len.ensures.len, c.if-prove.true)

pub invariant_of-self : goal.invariant_of-self
invariant_of-self g c =
    let written = set-insert g.K.Ord.cmp g.met.K.Ord.total c.args.key.now (Some c.args.row) c.self.inside.slots.entries c.self.invariant.ordered (rw (← c.self.view_is) at c.requires) in
    record {
      ordered = c.swap-old.ensures.ordered;
      counted = rw (c.swap-old.ensures.entries, written) (count-put _ g.met.K.Ord.total _ _ c.self.inside.slots.entries _ _ _ c.self.invariant.ordered c.self.invariant.counted c.swap-old.ensures.old c.rows_in.ensures);
    }

pub returns-clause-old : goal.returns-clause-old
returns-clause-old g c = rw (← c.self.view_is) (c.swap-old.ensures.old ∙ sym (lookup-rows _ g.met.K.Ord.total _ c.self.inside.slots.entries c.self.invariant.ordered))

pub returns-clause-rows : goal.returns-clause-rows
returns-clause-rows g c =
    let written = set-insert g.K.Ord.cmp g.met.K.Ord.total c.args.key.now (Some c.args.row) c.self.inside.slots.entries c.self.invariant.ordered (rw (← c.self.view_is) at c.requires) in
    rw (← c.self.view_is, c.swap-old.ensures.entries, written) (rows-insert _ g.met.K.Ord.total g.met.K.TableKey.equal_is_same _ _ c.self.inside.slots.entries c.self.invariant.ordered)

pub returns-clause-slots : goal.returns-clause-slots
returns-clause-slots g c = rw (← c.self.view_is, c.swap-old.ensures.entries) (keys-set_value _ c.self.inside.slots.entries _)
