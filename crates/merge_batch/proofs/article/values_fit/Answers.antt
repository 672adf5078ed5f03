use Rattle.std.proofs.Common.{drop, ◌+◌, arith}
use Rattle.std.proofs.lemmas.Grind.{common_steps}
use Rattle.merge_batch.specs.Articles.{row_values}
use Rattle.merge_batch.proofs.Values.{row_values-at, values_fit-long, values_fit-append, values_fit-none, drop-past}
use Rattle.merge_batch.proofs.article.values_fit.Goals as goal

-- the cell has more values than columns are left
pub returns-then-count-rest : goal.returns-then-count-rest
returns-then-count-rest c =
    let cell = c.cell-item.result in
    let rest = row_values (drop (c.loop-cell.cell-index + 1) c.args.cells.now) in
    let here = row_values-at c.args.cells.now c.loop-cell.cell-index cell (omega arith) c.cell-item.is in
    let long = values_fit-long c.loop-cell.rest.now cell.values rest (omega arith) in
    grind (arith, common_steps, here, long, c.loop-cell.invariant)

-- a value of the cell does not fit
pub returns-then-not-each_fits : goal.returns-then-not-each_fits
returns-then-not-each_fits c =
    let cell = c.cell-item.result in
    let rest = row_values (drop (c.loop-cell.cell-index + 1) c.args.cells.now) in
    let here = row_values-at c.args.cells.now c.loop-cell.cell-index cell (omega arith) c.cell-item.is in
    let parts = values_fit-append c.loop-cell.rest.now cell.values rest (omega arith) in
    grind (arith, common_steps, here, parts, c.loop-cell.invariant)

-- they all fit: those behind are left
pub loop-cell-preserved : goal.loop-cell-preserved
loop-cell-preserved c =
    let cell = c.cell-item.result in
    let rest = row_values (drop (c.loop-cell.cell-index + 1) c.args.cells.now) in
    let here = row_values-at c.args.cells.now c.loop-cell.cell-index cell (omega arith) c.cell-item.is in
    let parts = values_fit-append c.loop-cell.rest.now cell.values rest (omega arith) in
    grind (arith, common_steps, here, parts, c.loop-cell.invariant)

-- no cell is left: all fit just where no column is left
pub returns : goal.returns
returns c = grind (arith, common_steps, drop-past c.loop-cell.cell-index c.args.cells.now (omega arith), values_fit-none c.loop-cell.rest.now, c.loop-cell.invariant, c.is_empty.ensures)
