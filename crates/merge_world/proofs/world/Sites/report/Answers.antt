use Rattle.merge_world.proofs.Telling.{report-tells, report-wants}
use Rattle.merge_world.proofs.world.Sites.report.Goals as goal

pub returns-in-Ok-clause-happened : goal.returns-in-Ok-clause-happened
returns-in-Ok-clause-happened g c = λ e h is. report-tells _ c.args.site c.args.report e h c.in-Ok.answer is c.in-Ok.ensures.told c.requires.known

pub returns-in-Err-clause-happened : goal.returns-in-Err-clause-happened
returns-in-Err-clause-happened g c = λ e h is. report-wants _ c.args.site c.args.report e h is c.requires.known
