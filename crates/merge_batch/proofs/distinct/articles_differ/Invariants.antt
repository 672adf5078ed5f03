use Rattle.std.proofs.Common.{◌≡◌, drop, map}
use Rattle.merge_batch.specs.Search.{are_distinct}
use Rattle.merge_batch.proofs.distinct.articles_differ.Given as goal

-- all differ just when those that are left do
abbrev pub invariant-loop-at : goal.invariant-loop-at
invariant-loop-at g l = are_distinct (map g.T.OfArticle.place (drop l.at l.members)) ≡ are_distinct (map g.T.OfArticle.place l.members)
