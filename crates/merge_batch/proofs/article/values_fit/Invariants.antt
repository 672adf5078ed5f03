use Rattle.std.proofs.Common.{◌≡◌, drop}
use Rattle.merge_batch.specs.Articles.{values_fit, row_values}
use Rattle.merge_batch.proofs.article.values_fit.Given as goal

-- all fit just when those of the cells that are left fit the columns that are left
abbrev pub invariant-loop-cell : goal.invariant-loop-cell
invariant-loop-cell l = values_fit l.rest (row_values (drop l.cell-index l.cells)) ≡ values_fit l.columns (row_values l.cells)
