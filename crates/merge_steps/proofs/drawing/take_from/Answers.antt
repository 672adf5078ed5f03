use Rattle.std.proofs.Common.{inr, rules}
use Rattle.std.proofs.lemmas.Result.{err_from_is_err_and}
use Rattle.merge_steps.proofs.Drawn.{take-ended, take-made, take-wants}
use Rattle.merge_steps.proofs.drawing.take_from.Goals as goal

pub returns-in-Err-clause-drawn : goal.returns-in-Err-clause-drawn
returns-in-Err-clause-drawn c = λ before held. inr (take-ended _ held c.args.article c.args.ranges c.in-Err.used_up _ (search rules) (search rules))

pub returns-in_err-push-clause-drawn : goal.returns-in_err-push-clause-drawn
returns-in_err-push-clause-drawn c = λ before held.
    let p = err_from_is_err_and c.from_residual.result c.from_residual.ensures.1 in
    rw (p.1, p.2) (take-wants before held c.args.article c.args.ranges c.in-Ok.value c.args.grants (search rules))

pub returns-clause-drawn : goal.returns-clause-drawn
returns-clause-drawn c = λ before held. take-made before held c.args.article c.args.ranges c.in-Ok.value _ c.push.new.self c.args.grants (search rules) (search rules) (search rules)
