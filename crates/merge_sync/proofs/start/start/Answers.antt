-- A store is opened and loads, or it does not.
use Rattle.std.proofs.Common.{refl, ◌∙◌}
use Rattle.merge_sync.proofs.Starts.{unopened-so, unstarted-so}
use Rattle.merge_sync.proofs.start.start.Goals as goal

pub returns-in-Err-clause-stop : goal.returns-in-Err-clause-stop
returns-in-Err-clause-stop g c = unopened-so c.args.publication c.args.site (g.E.Outside.told c.args.outside.now c.args.site c.args.store.now) _ _ _ _ c.unopened.ensures _ refl c.in-Err.ensures.cause

pub returns-in-Err-start-clause-stop : goal.returns-in-Err-start-clause-stop
returns-in-Err-start-clause-stop g c = unstarted-so c.args.publication c.args.site _ _ _ c.in-Ok.ensures.fresh (g.E.Outside.counts c.args.outside.now) _ _ c.in-Ok.ensures.cause.kept c.keeper_back.ensures.counts _ _ _ _ _ c.unstarted.ensures c.in-Ok.ensures.map c.in-Err-start.ensures.err

pub returns-in-Err-start-clause-others : goal.returns-in-Err-start-clause-others
returns-in-Err-start-clause-others g c = λ s p other. c.keeper_back.ensures.others s p other ∙ c.in-Ok.ensures.others s p other
