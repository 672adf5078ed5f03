use Rattle.std.proofs.Common.{◌≡◌, take, map}
use Rattle.merge_schema.specs.declared.draft.ArticleDraft.{ArticleDraft}
use Rattle.merge_schema.proofs.names.article_names.Given as goal

abbrev pub invariant-loop-article : goal.invariant-loop-article
invariant-loop-article l = l.names ≡ map (λ (x : ArticleDraft). x.name) (take l.article-index l.articles)
