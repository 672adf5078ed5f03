use Rattle.std.proofs.Common.{arith}
use Rattle.std.proofs.lemmas.Grind.{common_steps}
use Rattle.merge_batch.proofs.Search.{distinct-at}
use Rattle.merge_batch.proofs.distinct.articles_differ.Goals as goal

-- the member's article comes again
pub returns-then-has_article : goal.returns-then-has_article
returns-then-has_article g c =
    let here = distinct-at g.T.OfArticle.place c.args.members.now c.loop-at.at c.index-members-at.result (omega arith) c.index-members-at.is in
    grind (arith, common_steps, here, c.loop-at.invariant, c.has_article.ensures, c.article.ensures, c.split_at.ensures.back)

-- it does not: those behind are left
pub loop-at-preserved : goal.loop-at-preserved
loop-at-preserved g c =
    let here = distinct-at g.T.OfArticle.place c.args.members.now c.loop-at.at c.index-members-at.result (omega arith) c.index-members-at.is in
    grind (arith, common_steps, here, c.loop-at.invariant, c.has_article.ensures, c.article.ensures, c.split_at.ensures.back)
