use Rattle.std.proofs.Common.{◌≡◌, drop}
use Rattle.merge_batch.specs.Articles.{values_fit}
use Rattle.merge_batch.proofs.article.each_fits.Given as goal

-- all fit just when those that are left do
abbrev pub invariant-loop-at : goal.invariant-loop-at
invariant-loop-at l = values_fit (drop l.at l.columns) (drop l.at l.values) ≡ values_fit l.columns l.values
