use Rattle.merge_model.specs.declared.event.Event.TheVariants as event
use Rattle.merge_world.proofs.Telling.{is-shown, show-nowhere, show-unnamed}
use Rattle.merge_world.proofs.world.Sites.show_event.Goals as goal

pub returns-in-Ok-article_by-clause-happened : goal.returns-in-Ok-article_by-clause-happened
returns-in-Ok-article_by-clause-happened g c = λ h. c.report.ensures.happened (event.Show c.args.site c.args.article.now) h
    (is-shown c.publication.result.now _ c.args.site c.args.article.now c.in-Ok-article_by.article c.publication.ensures c.in-Ok-article_by.ensures.named)

pub returns-in-Err-article_by-clause-happened : goal.returns-in-Err-article_by-clause-happened
returns-in-Err-article_by-clause-happened g c = λ h. show-unnamed _ c.args.site c.publication.result.now c.args.article.now c.in-Err-article_by.refusal h c.publication.ensures c.in-Err-article_by.ensures.unnamed c.in-Ok.ensures.ok

pub returns-in-Err-clause-happened : goal.returns-in-Err-clause-happened
returns-in-Err-clause-happened g c = λ h. show-nowhere _ c.args.site c.in-Err.refusal h c.in-Err.ensures.err.0 c.in-Err.ensures.err.1 c.args.article.now
