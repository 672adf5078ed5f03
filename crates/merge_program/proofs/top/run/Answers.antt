-- Each clause by why the run ended.
use Rattle.merge_program.proofs.Commands.{as-made}
use Rattle.merge_program.proofs.Statuses.{is-made, tells}
use Rattle.merge_program.proofs.top.run.Goals as goal

pub returns-clause-statuses : goal.returns-clause-statuses
returns-clause-statuses g c = tells _ _ _ _ _ c.status.ensures c.work-ending.ensures.ends c.work-ending.ensures.silent c.work-ending.ensures.counted

pub returns-clause-part : goal.returns-clause-part
returns-clause-part g c = c.work-ending.ensures.played

pub returns-clause-made : goal.returns-clause-made
returns-clause-made g c = λ customers make. is-made customers _ _ _ _ _ _ (as-made _ _ _ _ customers make c.work-ending.ensures.ends) _ c.status.ensures

pub returns-clause-noted : goal.returns-clause-noted
returns-clause-noted g c = record { ending = c.work-ending.result; status_is = c.status.ensures; ends = c.work-ending.ensures.ends; told = c.tell.ensures }

pub returns-clause-unread : goal.returns-clause-unread
returns-clause-unread g c = c.work-ending.ensures.unread

pub returns-clause-others : goal.returns-clause-others
returns-clause-others g c = c.work-ending.ensures.others
