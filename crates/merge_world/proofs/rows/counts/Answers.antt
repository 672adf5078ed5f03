use Rattle.std.proofs.Common.{ℕ, count_by}
use Rattle.merge_model.specs.World.Reports.{is_of_article}
use Rattle.merge_world.specs.Reports.{live_in}
use Rattle.merge_world.proofs.Rowwise.{counts-more}
use Rattle.merge_world.proofs.rows.counts.Goals as goal

pub loop-article-preserved : goal.loop-article-preserved
loop-article-preserved g c = counts-more (λ (article : ℕ). count_by (is_of_article article) (live_in g.R.Versioned.version_of c.args.rows.now.rows)) c.loop-article.counts c.push.new.self
    c.loop-article.article c.count.result c.loop-article.invariant c.count.ensures c.in_ok-push.ensures.ok
