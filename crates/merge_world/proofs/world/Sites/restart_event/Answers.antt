use Rattle.merge_world.proofs.Resumings.{restart-nowhere}
use Rattle.merge_world.proofs.world.Sites.restart_event.Goals as goal

pub returns-in-Err-clause-happened : goal.returns-in-Err-clause-happened
returns-in-Err-clause-happened g c = λ h. restart-nowhere _ c.args.site c.in-Err.refusal c.in-Err.ensures.err.0 c.in-Err.ensures.err.1 h
