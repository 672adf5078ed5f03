use Rattle.std.proofs.Common.{◌≤◌, length, ap, ◌∙◌}
use Rattle.merge_schema.specs.declared.draft.ArticleDraft.{ArticleDraft}
use Rattle.merge_schema.specs.Lookups.{columns_of}
use Rattle.merge_schema.proofs.Found.{found_in, all_at}
use Rattle.merge_schema.proofs.names.columns_named.Goals as goal

pub returns-in-None-clause-columns : goal.returns-in-None-clause-columns
returns-in-None-clause-columns c = ap columns_of c.in-None.ensures

pub returns-in-Some-clause-columns : goal.returns-in-Some-clause-columns
returns-in-Some-clause-columns c = c.as_slice.ensures ∙ ap columns_of c.in-Some.ensures

pub returns-in-Some-clause-few : goal.returns-in-Some-clause-few
returns-in-Some-clause-few c =
    λ every. rw c.as_slice.ensures (all_at (λ (article : ArticleDraft). length article.columns ≤ 64) c.args.articles.now c.in-Some.article.now every (found_in _ c.args.articles.now c.in-Some.article.now c.in-Some.ensures).0)
