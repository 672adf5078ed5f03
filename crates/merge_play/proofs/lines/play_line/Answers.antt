use Rattle.std.proofs.Common.{sym, ◌∙◌}
use Rattle.std.proofs.lemmas.Result.{err_from_is_err_and}
use Rattle.merge_play.proofs.SoFar.{line-ends, line-left, says-same}
use Rattle.merge_play.proofs.lines.play_line.Goals as goal

pub returns-in-Event-clause-ended : goal.returns-in-Event-clause-ended
returns-in-Event-clause-ended g c = λ why is. let done = c.play_event.ensures.ended why is in line-ends _ _ (sym c.in_ok-read_line.ensures ∙ c.in-Event.is) _ _ why _ _ done.0 done.1

pub returns-in-Event-clause-damaged : goal.returns-in-Event-clause-damaged
returns-in-Event-clause-damaged g c = λ site table key said is. c.play_event.ensures.damaged site table key (says-same _ _ _ (sym c.in_ok-read_line.ensures ∙ c.in-Event.is) said) is

pub returns-in_err-read_line-clause-part : goal.returns-in_err-read_line-clause-part
returns-in_err-read_line-clause-part g c =
    let p = err_from_is_err_and c.from_residual.result c.from_residual.ensures.1 in
    rw p.1 (line-left _ _ _ _)
