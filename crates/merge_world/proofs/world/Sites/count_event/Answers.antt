use Rattle.std.proofs.Common.{refl}
use Rattle.merge_model.specs.declared.event.Event.TheVariants as event
use Rattle.merge_world.proofs.Telling.{count-nowhere}
use Rattle.merge_world.proofs.world.Sites.count_event.Goals as goal

pub returns-in-Ok : goal.returns-in-Ok
returns-in-Ok g c = λ h. c.report.ensures.happened (event.Count c.args.site) h refl

pub returns-in-Err : goal.returns-in-Err
returns-in-Err g c = λ h. count-nowhere _ c.args.site c.in-Err.refusal h c.in-Err.ensures.err.0 c.in-Err.ensures.err.1
