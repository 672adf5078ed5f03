use Rattle.std.proofs.Common.{All, length, take}
use Rattle.std.specs.List.{AllZip}
use Rattle.merge_schema.specs.declared.publication.Article.{Article}
use Rattle.merge_schema.specs.Building.{IsPlaced}
use Rattle.merge_schema.specs.Valid.{FilterFits}
use Rattle.merge_schema.proofs.building.articles_of.Given as goal

abbrev pub invariant-loop-draft : goal.invariant-loop-draft
invariant-loop-draft l = record {
  placed : AllZip (IsPlaced l.drafts) (take l.draft-index l.drafts) l.articles;
  fits : All (λ (article : Article). FilterFits article.filter (length article.columns)) l.articles;
}
