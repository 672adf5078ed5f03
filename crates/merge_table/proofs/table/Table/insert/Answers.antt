use Rattle.std.proofs.Common.{◌≡◌, true, false, sym, ap, ◌∙◌, arith}
use Rattle.std.specs.Prelude.{is_some}
use Rattle.std.specs.Option.{option_flatten}
use Rattle.std.specs.Map.{keys_of}
use Rattle.std.proofs.lemmas.Map.Made.{is_some-lookup}
use Rattle.merge_table.specs.Contents.{has_room}
use Rattle.merge_table.proofs.Slots.{lookup-rows, rows-insert, keys-insert_entry}
use Rattle.merge_table.proofs.Counts.{length-rows_le, count-put}
use Rattle.merge_table.proofs.table.Table.insert.Goals as goal

pub prove-unreachable-requires : goal.prove-unreachable-requires
prove-unreachable-requires g c = omega (arith, length-rows_le c.self.inside.slots.entries, c.self.invariant.counted, c.len.ensures.len, c.if-prove.true)

pub returns-in_err-insert-clause-succeeds : goal.returns-in_err-insert-clause-succeeds
returns-in_err-insert-clause-succeeds g c = λ room.
    let absent : has_room g.K.Ord.cmp (keys_of c.self.inside.slots.entries) c.args.key ≡ false = sym (is_some-lookup _ c.self.inside.slots.entries) ∙ ap is_some c.in_err-insert.ensures.absent in
    let present : has_room g.K.Ord.cmp (keys_of c.self.inside.slots.entries) c.args.key ≡ true = rw (← c.self.view_is) at room in
    absurd cc

pub invariant_of-self-2 : goal.invariant_of-self-2
invariant_of-self-2 g c = record {
  ordered = c.insert.ensures.ordered;
  counted = rw c.in_ok-insert.ensures.entries (count-put _ g.met.K.Ord.total _ _ c.self.inside.slots.entries _ _ _ c.self.invariant.ordered c.self.invariant.counted (c.flatten-before.ensures ∙ ap option_flatten c.in_ok-insert.ensures.old) c.rows_in.ensures);
}

pub returns-clause-old : goal.returns-clause-old
returns-clause-old g c =
    rw (← c.self.view_is) (c.flatten-before.ensures ∙ ap option_flatten c.in_ok-insert.ensures.old ∙ sym (lookup-rows _ g.met.K.Ord.total _ c.self.inside.slots.entries c.self.invariant.ordered))

pub returns-clause-rows : goal.returns-clause-rows
returns-clause-rows g c =
    rw (← c.self.view_is, c.in_ok-insert.ensures.entries) (rows-insert _ g.met.K.Ord.total g.met.K.TableKey.equal_is_same _ _ c.self.inside.slots.entries c.self.invariant.ordered)

pub returns-clause-slots : goal.returns-clause-slots
returns-clause-slots g c = rw (← c.self.view_is, c.in_ok-insert.ensures.entries) (keys-insert_entry _ _ _ c.self.inside.slots.entries)
