use Rattle.merge_ident.proofs.Plans.{planned_more, planned_all, plans_follow}
use Rattle.merge_ident.proofs.asks.plans.Goals as goal

pub answer-requires-clause-numbered : goal.answer-requires-clause-numbered
answer-requires-clause-numbered c = rw c.deref.ensures.value c.loop-ask.invariant.book.grants_fit.numbered

pub loop-ask-preserved : goal.loop-ask-preserved
loop-ask-preserved c =
    let answered = rw c.deref.ensures.value at c.answer.ensures in
    rw (c.in_ok-push.ensures.items, c.in_ok-add_if_some.ensures, c.new_grant.ensures, answered)
    (planned_more c.args.rules.now c.args.grants.now c.args.asks.now c.loop-ask.plans.items c.loop-ask.planned.items c.loop-ask.ask-index _ c.loop-ask-test.true c.loop-ask.invariant)

pub returns-clause-follow : goal.returns-clause-follow
returns-clause-follow c =
    rw (planned_all c.args.rules.now c.args.grants.now c.args.asks.now c.loop-ask.plans.items c.loop-ask.planned.items c.loop-ask.ask-index c.loop-ask-test.false c.loop-ask.invariant) (plans_follow c.args.rules.now c.args.grants.now c.args.asks.now c.requires.book)
