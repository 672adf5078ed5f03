use Rattle.std.proofs.Common.{◌≡◌, take, map}
use Rattle.merge_schema.specs.declared.publication.Article.{Article}
use Rattle.merge_schema.specs.Ancestors.{leads_to}
use Rattle.merge_schema.proofs.joins.step_back.Given as goal

abbrev pub invariant-loop-article : goal.invariant-loop-article
invariant-loop-article l = l.stepped ≡ map (λ (article : Article). leads_to l.place l.marks article.joins) (take l.article-index l.articles)
