use Rattle.std.proofs.Common.{rules}
use Rattle.merge_ident.specs.Holders.{after_take}
use Rattle.merge_steps.proofs.Drawn.{ended-gives, next-gives, next-keeps, one-held}
use Rattle.merge_steps.proofs.drawing.take_next.Goals as goal

pub returns-in-Ok-clause-drawn : goal.returns-in-Ok-clause-drawn
returns-in-Ok-clause-drawn c = λ held.
    let book = c.args.book.now in
    next-gives book.rules book.grants held c.args.article c.args.ranges c.in-Ok.field-0 c.empty.result c.take_from.result (c.take_from.ensures.drawn book.grants held) (search rules) (search rules)

pub returns-in-Ok-clause-heard : goal.returns-in-Ok-clause-heard
returns-in-Ok-clause-heard c = λ held heard there.
    next-keeps c.args.book.now.grants held c.args.article c.args.ranges c.empty.result c.take_from.result heard there c.take_from.ensures.held c.take_from.ensures.grants (search rules)

pub returns-in-Err-clause-drawn : goal.returns-in-Err-clause-drawn
returns-in-Err-clause-drawn c = λ held.
    let book = c.args.book.now in
    ended-gives book.rules book.grants held c.args.article c.args.ranges c.in-Err.field-0 c.take_granted.result (c.take_granted.ensures.drawn held) (search rules)

pub returns-in-Ok-clause-one : goal.returns-in-Ok-clause-one
returns-in-Ok-clause-one c = one-held c.args.article (after_take c.args.ranges) c.take_from.result c.take_from.ensures.held
