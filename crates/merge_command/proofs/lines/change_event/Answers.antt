-- An event was taken, and its answer written, or a front of it.
use Rattle.std.proofs.Common.{ap, inl, refl, sym}
use Rattle.merge_command.proofs.SoFar.{line-answered, line-in, line-in-part, on-err}
use Rattle.merge_command.proofs.lines.change_event.Goals as goal

pub returns-in_ok-write_answer-in-Some-clause-ok : goal.returns-in_ok-write_answer-in-Some-clause-ok
returns-in_ok-write_answer-in-Some-clause-ok g c = line-answered _ _ _ _ _ _ _ _ _ _ c.in-Some.ensures.took c.publication.ensures c.in_ok-write_answer-in-Some.ensures.ok

pub returns-in_err-write_answer-in-Some-clause-part : goal.returns-in_err-write_answer-in-Some-clause-part
returns-in_err-write_answer-in-Some-clause-part g c = on-err _ (line-in-part _ _ _ _ _ _ _ _ _ _ c.in-Some.ensures.took c.publication.ensures c.in_err-write_answer-in-Some.ensures.part)

pub returns-in-None-clause-part : goal.returns-in-None-clause-part
returns-in-None-clause-part g c = inl (c.happen.ensures.idle c.in-None.is, refl)

pub returns-in-None-clause-not_taken : goal.returns-in-None-clause-not_taken
returns-in-None-clause-not_taken g c = λ line is. (sym (ap line-in is), c.happen.ensures.foreign c.in-None.is)
