use Rattle.merge_world.proofs.Changings.{delete-made, delete-nowhere, delete-unnamed}
use Rattle.merge_world.proofs.world.Sites.delete_event.Goals as goal

pub returns-in-Ok-delete_change : goal.returns-in-Ok-delete_change
returns-in-Ok-delete_change g c = λ h. delete-made _ c.args.site c.publication.result.now c.publication.ensures c.args.article.now c.args.row
    c.in-Ok.ensures.ok c.in-Ok-delete_change.change c.in-Ok-delete_change.ensures.named _ c.change.result c.change.ensures h

pub returns-in-Err-delete_change : goal.returns-in-Err-delete_change
returns-in-Err-delete_change g c = λ h. delete-unnamed _ c.args.site c.publication.result.now c.publication.ensures c.args.article.now c.args.row
    c.in-Ok.ensures.ok c.in-Err-delete_change.refusal c.in-Err-delete_change.ensures.unnamed h

pub returns-in-Err : goal.returns-in-Err
returns-in-Err g c = λ h. delete-nowhere _ c.args.site c.in-Err.ensures.err.1 c.in-Err.refusal c.in-Err.ensures.err.0 h c.args.article.now c.args.row
