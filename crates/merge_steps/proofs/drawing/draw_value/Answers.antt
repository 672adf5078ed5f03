use Rattle.std.proofs.Common.{arith, rules}
use Rattle.merge_steps.proofs.Drawn.{delete-drawn, insert-gives, no-ranges-drawn, not-insert, own-rule, update-drawn}
use Rattle.merge_steps.proofs.drawing.draw_value.Goals as goal

pub take_next-requires-clause-rule : goal.take_next-requires-clause-rule
take_next-requires-clause-rule c = own-rule c.args.publication.now c.args.book.now.rules c.args.held.now.rows c.in-Insert.article c.in-Some.ranges.now (search rules) c.requires.rules c.requires.columns

pub returns-in-Some-clause-drawn : goal.returns-in-Some-clause-drawn
returns-in-Some-clause-drawn c =
    insert-gives c.args.publication.now c.args.book.now.rules c.args.book.now.grants c.args.held.now.rows c.args.change.now c.in-Insert.article c.in-Insert.values c.in-Some.ranges.now c.take_next.result
    (c.take_next.ensures.drawn c.args.held.now.rows) c.in-Insert.is c.requires.rules (search rules)

pub returns-in-Some-clause-nothing : goal.returns-in-Some-clause-nothing
returns-in-Some-clause-nothing c = λ other. not-insert c.args.change.now c.in-Insert.article c.in-Insert.values c.take_next.result c.in-Insert.is other

pub returns-in-None-clause-drawn : goal.returns-in-None-clause-drawn
returns-in-None-clause-drawn c =
    no-ranges-drawn c.args.publication.now c.args.book.now.grants c.args.held.now.rows c.args.change.now c.in-Insert.article c.in-Insert.values c.no_draw.result c.in-Insert.is (search rules) c.no_draw.ensures

pub returns-in-Update-clause-drawn : goal.returns-in-Update-clause-drawn
returns-in-Update-clause-drawn c =
    update-drawn c.args.publication.now c.args.book.now.grants c.args.held.now.rows c.args.change.now c.in-Update.article c.in-Update.row c.in-Update.values c.no_draw-in-Update.result c.in-Update.is c.no_draw-in-Update.ensures

pub returns-in-Delete-clause-drawn : goal.returns-in-Delete-clause-drawn
returns-in-Delete-clause-drawn c =
    delete-drawn c.args.publication.now c.args.book.now.grants c.args.held.now.rows c.args.change.now c.in-Delete.article c.in-Delete.row c.no_draw-in-Delete.result c.in-Delete.is c.no_draw-in-Delete.ensures

pub returns-in-None-clause-one : goal.returns-in-None-clause-one
returns-in-None-clause-one c = rw c.no_draw.ensures (omega arith)

pub returns-in-Update-clause-one : goal.returns-in-Update-clause-one
returns-in-Update-clause-one c = rw c.no_draw-in-Update.ensures (omega arith)

pub returns-in-Delete-clause-one : goal.returns-in-Delete-clause-one
returns-in-Delete-clause-one c = rw c.no_draw-in-Delete.ensures (omega arith)
