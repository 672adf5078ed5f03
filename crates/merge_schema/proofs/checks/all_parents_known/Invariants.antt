use Rattle.std.proofs.Common.{◌≡◌, drop}
use Rattle.merge_schema.specs.Checks.{parents_known}
use Rattle.merge_schema.specs.Steps.{every}
use Rattle.merge_schema.proofs.checks.all_parents_known.Given as goal

abbrev pub invariant-loop-article : goal.invariant-loop-article
invariant-loop-article l = every (parents_known l.names) (drop l.article-index l.articles) ≡ every (parents_known l.names) l.articles
