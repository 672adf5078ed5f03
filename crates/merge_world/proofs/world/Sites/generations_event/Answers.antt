use Rattle.std.proofs.Common.{refl}
use Rattle.merge_model.specs.declared.event.Event.TheVariants as event
use Rattle.merge_world.proofs.Telling.{generations-nowhere}
use Rattle.merge_world.proofs.world.Sites.generations_event.Goals as goal

pub returns-in-Ok : goal.returns-in-Ok
returns-in-Ok g c = λ h. c.report.ensures.happened (event.Generations c.args.site) h refl

pub returns-in-Err : goal.returns-in-Err
returns-in-Err g c = λ h. generations-nowhere _ c.args.site c.in-Err.refusal h c.in-Err.ensures.err.0 c.in-Err.ensures.err.1
