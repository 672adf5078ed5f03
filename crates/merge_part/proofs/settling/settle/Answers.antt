use Rattle.std.proofs.Common.{◌≡◌, ◌∷◌, ◌+◌, ◌<◌, length, sym, ap, ◌∙◌, drop, drop-cons, add-one, get_or}
use Rattle.std.specs.Map.{keys_of}
use Rattle.merge_part.specs.Draft.{rows_in, marks_in}
use Rattle.merge_part.proofs.Settled.{quiet_by}
use Rattle.merge_part.proofs.settling.settle.Goals as goal

pub settle_article-requires-clause-met : goal.settle_article-requires-clause-met
settle_article-requires-clause-met c =
    rw c.loop-article.invariant.rows
    (quiet_by c.args.kept.now.rules.links (rows_in c.args.kept.now.held.rows.rows c.args.draft.now.rows) (marks_in c.args.kept.now.held.marks.rows c.loop-article.draft.marks.rows)
    (drop c.loop-article.article-index c.args.kept.now.rules.order) (keys_of c.loop-article.draft.waiting.rows.rows) c.loop-article.invariant.met)

pub loop-article-preserved : goal.loop-article-preserved
loop-article-preserved c =
    let same : c.loop-article.draft.rows ≡ c.args.draft.now.rows = c.loop-article.invariant.rows in
    let same_index : c.loop-article.draft.index ≡ c.args.draft.now.index = c.loop-article.invariant.index in
    let less : c.loop-article.article-index < length c.args.kept.now.rules.order = rw c.as_slice-article-items.ensures at c.loop-article-test.true in
    let split : drop c.loop-article.article-index c.args.kept.now.rules.order ≡ get_or c.args.kept.now.rules.order c.loop-article.article-index 0 ∷ drop (c.loop-article.article-index + 1) c.args.kept.now.rules.order
    = drop-cons c.args.kept.now.rules.order c.loop-article.article-index 0 less ∙ ap (λ n. get_or c.args.kept.now.rules.order c.loop-article.article-index 0 ∷ drop n c.args.kept.now.rules.order) (sym (add-one c.loop-article.article-index)) in
    record {
      rows = c.in_ok-settle_article.ensures.rows ∙ same;
      index = c.in_ok-settle_article.ensures.index ∙ same_index;
      reached = rw same_index at c.in_ok-settle_article.ensures.reached;
      met = (rw (c.as_slice-article-items.ensures, same) at c.in_ok-settle_article.ensures.ok) (drop (c.loop-article.article-index + 1) c.args.kept.now.rules.order)
          (c.requires.order c.loop-article.article-index less) (rw split at c.loop-article.invariant.met);
    }
