-- A keeper that is given back is that of the store.
use Rattle.std.proofs.Common.{◌∙◌}
use Rattle.merge_program.proofs.Openings.{subscribed-so}
use Rattle.merge_program.proofs.alone.start_subscriber.Goals as goal

pub returns-in-Err-start-clause-ends : goal.returns-in-Err-start-clause-ends
returns-in-Err-start-clause-ends g c =
    subscribed-so _ _ _ _ c.in-Ok.ensures.fresh (g.E.Outside.counts c.args.outside.now) _ _ c.in-Ok.ensures.cause.kept c.keeper_back.ensures.counts _ _ _ _ c.requires.subscribes _ _ _ _ _ c.stopped.ensures c.in-Ok.ensures.map c.in-Err-start.ensures.err c.keeper_back.ensures.map c.in-Err-start.ensures.back.0

pub returns-in-Err-start-clause-others : goal.returns-in-Err-start-clause-others
returns-in-Err-start-clause-others g c = λ s p other. c.keeper_back.ensures.others s p other ∙ c.in-Ok.ensures.others s p other
