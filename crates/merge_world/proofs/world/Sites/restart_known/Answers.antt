use Rattle.std.proofs.Common.{refl}
use Rattle.merge_world.proofs.Resumings.{damaged-so, restart-fails, restart-fine}
use Rattle.merge_world.proofs.world.Sites.restart_known.Goals as goal

pub returns-in-Ok-clause-happened : goal.returns-in-Ok-clause-happened
returns-in-Ok-clause-happened g c = λ h. restart-fine c.args.site _ _ c.in-Ok.ensures.resumes c.requires.known h

pub returns-in-Err-clause-happened : goal.returns-in-Err-clause-happened
returns-in-Err-clause-happened g c = λ h. restart-fails c.args.site _ _ c.in-Err.refusal c.in-Err.ensures.resumes c.requires.known c.unless_ended.result c.unless_ended.ensures.wanting c.unless_ended.ensures.ended h

pub returns-in-Err-clause-damaged : goal.returns-in-Err-clause-damaged
returns-in-Err-clause-damaged g c = λ table key is. c.in-Err.ensures.damaged table key (damaged-so c.in-Err.refusal table key c.unless_ended.result c.unless_ended.ensures.ended is)
