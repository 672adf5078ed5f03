use Rattle.std.proofs.Common.{◌+◌, List, length, All, take, sym, subst}
use Rattle.std.specs.List.{AllZip}
use Rattle.merge_schema.specs.declared.publication.Article.{Article}
use Rattle.merge_schema.specs.Building.{IsPlaced}
use Rattle.merge_schema.specs.Valid.{FilterFits}
use Rattle.std.proofs.lemmas.List.Elements.{All-push}
use Rattle.merge_schema.proofs.Placed.{placed_more}
use Rattle.merge_schema.proofs.building.articles_of.Goals as goal

pub loop-draft-preserved : goal.loop-draft-preserved
loop-draft-preserved c =
    let drafts = c.args.drafts.now in
    let pushed = sym c.in_ok-push.ensures.ok in
    record {
      placed = subst (λ (articles : List Article). AllZip (IsPlaced drafts) (take (c.loop-draft.draft-index + 1) drafts) articles) pushed
          (placed_more (IsPlaced drafts) drafts c.loop-draft.articles c.loop-draft.draft-index c.draft-item.result c.in_ok-article_of.field-0 c.loop-draft-test.true c.draft-item.is c.loop-draft.invariant.placed c.in_ok-article_of.ensures.article);
      fits = subst (λ (articles : List Article). All (λ (article : Article). FilterFits article.filter (length article.columns)) articles) pushed
          (All-push (λ (article : Article). FilterFits article.filter (length article.columns)) c.loop-draft.articles c.in_ok-article_of.field-0 c.loop-draft.invariant.fits c.in_ok-article_of.ensures.fits);
    }
