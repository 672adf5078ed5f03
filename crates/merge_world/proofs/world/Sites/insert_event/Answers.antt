use Rattle.merge_world.proofs.Changings.{insert-made, insert-nowhere, insert-unnamed}
use Rattle.merge_world.proofs.world.Sites.insert_event.Goals as goal

pub returns-in-Ok-insert_change : goal.returns-in-Ok-insert_change
returns-in-Ok-insert_change g c = λ h. insert-made _ c.args.site c.publication.result.now c.publication.ensures c.args.article.now c.args.values.now c.as_slice.result.now c.as_slice.ensures
    c.in-Ok.ensures.ok c.in-Ok-insert_change.change c.in-Ok-insert_change.ensures.named _ c.change.result c.change.ensures h

pub returns-in-Err-insert_change : goal.returns-in-Err-insert_change
returns-in-Err-insert_change g c = λ h. insert-unnamed _ c.args.site c.publication.result.now c.publication.ensures c.args.article.now c.args.values.now c.as_slice.result.now c.as_slice.ensures
    c.in-Ok.ensures.ok c.in-Err-insert_change.refusal c.in-Err-insert_change.ensures.unnamed h

pub returns-in-Err : goal.returns-in-Err
returns-in-Err g c = λ h. insert-nowhere _ c.args.site c.in-Err.ensures.err.1 c.in-Err.refusal c.in-Err.ensures.err.0 h c.args.article.now c.args.values.now
