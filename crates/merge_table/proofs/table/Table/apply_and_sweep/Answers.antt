-- The changes keep the slots, and the sweep keeps the rows.
use Rattle.std.proofs.Common.{◌∙◌, ap, arith, length, sym}
use Rattle.std.specs.Map.{keys_of}
use Rattle.merge_table.proofs.table.Table.apply_and_sweep.Goals as goal

pub returns-clause-early : goal.returns-clause-early
returns-clause-early g c = λ few.
    c.sweep_if_due.ensures.early (omega (arith, few, ap length c.apply.ensures.slots, ap length c.sweep_if_due.ensures.rows)) ∙ c.apply.ensures.slots

pub returns-clause-due : goal.returns-clause-due
returns-clause-due g c = λ many.
    c.sweep_if_due.ensures.due (omega (arith, many, ap length c.apply.ensures.slots, ap length c.sweep_if_due.ensures.rows)) ∙ ap keys_of (sym c.sweep_if_due.ensures.rows)
