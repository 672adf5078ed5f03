use Rattle.std.proofs.Common.{rules}
use Rattle.std.proofs.lemmas.Result.{err_from_is_err_and}
use Rattle.merge_ident.specs.Holders.{after_take}
use Rattle.merge_steps.proofs.Drawn.{grant-wants, granted-gives, granted-keeps, next-keeps, none-gives, one-held, plan-wants}
use Rattle.merge_steps.proofs.drawing.take_granted.Goals as goal

pub returns-in_err-plan-clause-drawn : goal.returns-in_err-plan-clause-drawn
returns-in_err-plan-clause-drawn c = λ held.
    let book = c.args.book.now in
    let p = err_from_is_err_and c.from_residual.result c.from_residual.ensures.1 in
    rw (p.1, p.2) (grant-wants book.rules book.grants held c.args.article c.args.ranges c.granted-have.result c.granted-have.ensures c.in_err-plan.ensures.memory)

pub returns-in_err-push-in-Some-clause-drawn : goal.returns-in_err-push-in-Some-clause-drawn
returns-in_err-push-in-Some-clause-drawn c = λ held.
    let book = c.args.book.now in
    let p = err_from_is_err_and c.from_residual-in_err-push-in-Some.result c.from_residual-in_err-push-in-Some.ensures.1 in
    rw (p.1, p.2) (plan-wants book.rules book.grants held c.args.article c.args.ranges c.in_ok-plan.plan c.in-Some.number c.in-Some.range (search rules) (search rules))

pub returns-in_ok-push-in-Some-clause-drawn : goal.returns-in_ok-push-in-Some-clause-drawn
returns-in_ok-push-in-Some-clause-drawn c = λ held.
    let book = c.args.book.now in
    granted-gives book.rules book.grants held c.args.article c.args.ranges c.receive.new.self c.in_ok-plan.plan c.push.new.self c.in-Some.number c.in-Some.range c.take_from.result
    (c.take_from.ensures.drawn book.grants held) (search rules) (search rules) (search rules) (search rules)

pub returns-in_ok-push-in-Some-clause-heard : goal.returns-in_ok-push-in-Some-clause-heard
returns-in_ok-push-in-Some-clause-heard c = λ held heard there.
    let book = c.args.book.now in
    granted-keeps book.rules book.grants held c.args.article c.args.ranges c.receive.new.self c.in_ok-plan.plan c.push.new.self c.in-Some.number c.in-Some.range c.take_from.result
    heard there c.take_from.ensures.held c.take_from.ensures.grants (search rules) (search rules) (search rules) (search rules)

pub returns-in-None-clause-drawn : goal.returns-in-None-clause-drawn
returns-in-None-clause-drawn c = λ held.
    let book = c.args.book.now in
    none-gives book.rules book.grants held c.args.article c.args.ranges c.in_ok-plan.plan c.empty.result c.take_from-in-None.result (c.take_from-in-None.ensures.drawn book.grants held) (search rules) (search rules) (search rules)

pub returns-in-None-clause-heard : goal.returns-in-None-clause-heard
returns-in-None-clause-heard c = λ held heard there.
    next-keeps c.args.book.now.grants held c.args.article c.args.ranges c.empty.result c.take_from-in-None.result heard there c.take_from-in-None.ensures.held c.take_from-in-None.ensures.grants (search rules)

pub returns-in_ok-push-in-Some-clause-one : goal.returns-in_ok-push-in-Some-clause-one
returns-in_ok-push-in-Some-clause-one c = one-held c.args.article (after_take c.receive.new.self) c.take_from.result c.take_from.ensures.held

pub returns-in-None-clause-one : goal.returns-in-None-clause-one
returns-in-None-clause-one c = one-held c.args.article (after_take c.args.ranges) c.take_from-in-None.result c.take_from-in-None.ensures.held
