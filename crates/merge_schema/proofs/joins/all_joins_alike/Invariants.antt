use Rattle.std.proofs.Common.{◌≡◌, drop}
use Rattle.merge_schema.specs.Ancestors.{joins_alike}
use Rattle.merge_schema.specs.Steps.{every}
use Rattle.merge_schema.proofs.joins.all_joins_alike.Given as goal

abbrev pub invariant-loop-article : goal.invariant-loop-article
invariant-loop-article l = every (joins_alike l.articles) (drop l.article-index l.articles) ≡ every (joins_alike l.articles) l.articles
