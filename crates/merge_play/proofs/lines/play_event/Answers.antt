use Rattle.std.proofs.Common.{inl, inr, refl}
use Rattle.std.proofs.lemmas.Result.{on_err_weaker, on_ok_weaker}
use Rattle.merge_batch.specs.declared.refusal.Refusal.TheVariants.{Damaged}
use Rattle.merge_play.proofs.SoFar.{ended-as, line-answered, line-in-part, rises-by}
use Rattle.merge_play.proofs.lines.play_event.Goals as goal

pub returns-in-Ok-clause-ok : goal.returns-in-Ok-clause-ok
returns-in-Ok-clause-ok g c = on_ok_weaker c.write_answer.result (λ more. line-answered _ _ _ _ _ _ _ _ _ c.in-Ok.ensures.happened c.publication.ensures more) c.write_answer.ensures.ok

pub returns-in-Ok-clause-part : goal.returns-in-Ok-clause-part
returns-in-Ok-clause-part g c = on_err_weaker c.write_answer.result (λ more. line-in-part _ _ _ _ _ _ _ _ _ c.in-Ok.ensures.happened c.publication.ensures more) c.write_answer.ensures.part

pub returns-in-Ok-clause-later : goal.returns-in-Ok-clause-later
returns-in-Ok-clause-later g c = let happened = c.in-Ok.ensures.happened in rises-by _ _ _ _ _ _ _ _ happened.comes

pub returns-in-Ok-clause-damaged : goal.returns-in-Ok-clause-damaged
returns-in-Ok-clause-damaged g c = λ site table key restarts is. absurd (c.write_answer.ensures.ended (Damaged table key) is)

pub returns-in-Err-clause-part : goal.returns-in-Err-clause-part
returns-in-Err-clause-part g c = let lost = c.in-Err.ensures.happened in inr (inl (c.in-Err.refusal, lost.0, lost.1, refl))

pub returns-in-Err-clause-damaged : goal.returns-in-Err-clause-damaged
returns-in-Err-clause-damaged g c = λ site table key restarts is. c.in-Err.ensures.damaged site table key restarts (ended-as c.in-Err.refusal _ is)
