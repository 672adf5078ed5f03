use Rattle.std.proofs.Common.{◌≡◌, drop}
use Rattle.merge_schema.specs.Checks.{distinct_columns}
use Rattle.merge_schema.specs.Steps.{every}
use Rattle.merge_schema.proofs.checks.distinct_columns.Given as goal

abbrev pub invariant-loop-article : goal.invariant-loop-article
invariant-loop-article l = every distinct_columns (drop l.article-index l.articles) ≡ every distinct_columns l.articles
