-- Each row is read behind the others, and a fault has its cause.
use Rattle.std.proofs.Common.{◌≡◌, ◌∙◌, ◌<◌, length, refl, sym, ap, subst, inl, inr, rules}
use Rattle.std.proofs.lemmas.Result.{err_from_is_err_and}
use Rattle.merge_ports.specs.Entries.{Map}
use Rattle.merge_sqlite.specs.Causes.{fault_of}
use Rattle.merge_sqlite.specs.Reading.{HasBadRow, with_row}
use Rattle.merge_sqlite.proofs.Steps.{read_more, row_is_bad, rows_more}
use Rattle.merge_sqlite.proofs.keeper.read_all.Goals as goal

pub loop-row-preserved : goal.loop-row-preserved
loop-row-preserved g c =
    let rows = c.deref-row-items.result.now in
    let within : c.loop-row.row-index < length rows = search rules in (
      rows_more rows c.loop-row.row-index c.row-item.result within c.row-item.is c.loop-row.invariant.0 c.in_ok-add_entry.ensures.entry,
      c.in_ok-add_entry.ensures.ok ∙ ap (λ (m : Map). with_row m c.row-item.result) c.loop-row.invariant.1 ∙ sym (read_more rows c.loop-row.row-index c.row-item.result within c.row-item.is),
    )

pub returns-in_err-rows-clause-err : goal.returns-in_err-rows-clause-err
returns-in_err-rows-clause-err g c clean =
    let out = err_from_is_err_and c.from_residual.result c.from_residual.ensures.1 in
    rw (out.1, out.2) (inl (c.in_err-rows.field-0.0, refl, c.in_err-rows.ensures.err clean))

pub returns-in_err-add_entry-clause-err : goal.returns-in_err-add_entry-clause-err
returns-in_err-add_entry-clause-err g c clean =
    let rows = c.deref-row-items.result.now in
    let stop = c.in_err-add_entry.field-0.0 in
    let within : c.loop-row.row-index < length rows = search rules in
    let bad = row_is_bad stop rows c.loop-row.row-index c.row-item.result within c.row-item.is c.in_err-add_entry.ensures.refused in
    let out = err_from_is_err_and c.from_residual-in_err-add_entry.result c.from_residual-in_err-add_entry.ensures.1 in
    rw (out.1, out.2) (inr (c.in_ok-rows.rows.items, c.in_ok-rows.ensures.ok clean, subst (HasBadRow (fault_of stop)) c.deref-row-items.ensures.value bad))
