use Rattle.std.proofs.Common.{ap, ◌∙◌, arith}
use Rattle.merge_table.specs.Contents.{rows_of}
use Rattle.merge_table.proofs.Counts.{length-rows_le}
use Rattle.merge_table.proofs.Ranges.{rows-filter, sorted-rows}
use Rattle.merge_table.proofs.table.Table.range.Goals as goal

pub returns-clause-between : goal.returns-clause-between
returns-clause-between g c = λ bounded. rw (← c.self.view_is) (ap rows_of (c.range.ensures.between bounded) ∙ rows-filter _ c.self.inside.slots.entries)

pub returns-clause-ordered : goal.returns-clause-ordered
returns-clause-ordered g c = rw (← c.self.view_is) (sorted-rows _ c.self.inside.slots.entries c.self.invariant.ordered)

pub returns-clause-fits : goal.returns-clause-fits
returns-clause-fits g c = omega (arith, length-rows_le c.range.result, c.range.ensures.fits)
