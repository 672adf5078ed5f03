use Rattle.merge_world.proofs.Changings.{update-made, update-nowhere, update-unnamed}
use Rattle.merge_world.proofs.world.Sites.update_event.Goals as goal

pub returns-in-Ok-update_change : goal.returns-in-Ok-update_change
returns-in-Ok-update_change g c = λ h. update-made _ c.args.site c.publication.result.now c.publication.ensures c.args.article.now c.args.values.now c.as_slice.result.now c.as_slice.ensures c.args.row
    c.in-Ok.ensures.ok c.in-Ok-update_change.change c.in-Ok-update_change.ensures.named _ c.change.result c.change.ensures h

pub returns-in-Err-update_change : goal.returns-in-Err-update_change
returns-in-Err-update_change g c = λ h. update-unnamed _ c.args.site c.publication.result.now c.publication.ensures c.args.article.now c.args.values.now c.as_slice.result.now c.as_slice.ensures c.args.row
    c.in-Ok.ensures.ok c.in-Err-update_change.refusal c.in-Err-update_change.ensures.unnamed h

pub returns-in-Err : goal.returns-in-Err
returns-in-Err g c = λ h. update-nowhere _ c.args.site c.in-Err.ensures.err.1 c.in-Err.refusal c.in-Err.ensures.err.0 h c.args.article.now c.args.row c.args.values.now
