use Rattle.std.proofs.Common.{refl}
use Rattle.merge_model.specs.declared.event.Event.TheVariants as event
use Rattle.merge_world.proofs.Telling.{conflicts-nowhere}
use Rattle.merge_world.proofs.world.Sites.conflicts_event.Goals as goal

pub returns-in-Ok-clause-happened : goal.returns-in-Ok-clause-happened
returns-in-Ok-clause-happened g c = λ h. c.report.ensures.happened (event.Conflicts c.args.site) h refl

pub returns-in-Err-clause-happened : goal.returns-in-Err-clause-happened
returns-in-Err-clause-happened g c = λ h. conflicts-nowhere _ c.args.site c.in-Err.refusal h c.in-Err.ensures.err.0 c.in-Err.ensures.err.1
