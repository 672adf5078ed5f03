use Rattle.std.proofs.Common.{arith}
use Rattle.std.proofs.lemmas.Map.Entries.{length-keys_of}
use Rattle.merge_table.proofs.Counts.{length-rows_le}
use Rattle.merge_table.proofs.table.Table.spare.Goals as goal

pub overflow_sub-result : goal.overflow_sub-result
overflow_sub-result g c = omega (arith, length-rows_le c.self.inside.slots.entries, c.self.invariant.counted, c.len.ensures.len)

pub returns : goal.returns
returns g c =
    rw (← c.self.view_is) (omega (arith, length-rows_le c.self.inside.slots.entries, length-keys_of c.self.inside.slots.entries, c.self.invariant.counted, c.len.ensures.len))
