-- A keeper tells its store, and one that is given back is that of the store.
use Rattle.std.proofs.Common.{refl, subst, ◌∙◌}
use Rattle.merge_site.specs.Beginning.{IsEmptyStore}
use Rattle.merge_program.proofs.Starts.{stopped-at, unopened-at}
use Rattle.merge_program.proofs.stores.start_subscriber.Goals as goal

pub returns-in-Err-clause-ends : goal.returns-in-Err-clause-ends
returns-in-Err-clause-ends g c = unopened-at (g.E.Outside.told c.args.outside.now c.args.site c.args.path.now) _ _ _ _ c.unopened.ensures _ refl c.in-Err.ensures.cause

pub returns-in-Err-new-clause-ends : goal.returns-in-Err-new-clause-ends
returns-in-Err-new-clause-ends g c =
    stopped-at (g.E.Outside.told c.args.outside.now c.args.site c.args.path.now) _ _ c.in-Ok.ensures.fresh (g.E.Outside.counts c.args.outside.now) _ _ c.in-Ok.ensures.cause.kept c.keeper_back.ensures.counts
    _ c.in-Ok.ensures.map _ c.in-Err-new.ensures.err _ c.stopped.ensures

pub returns-in-Ok-new-clause-empty : goal.returns-in-Ok-new-clause-empty
returns-in-Ok-new-clause-empty g c = subst IsEmptyStore c.in-Ok.ensures.map c.in-Ok-new.ensures.empty

pub returns-in-Err-new-clause-others : goal.returns-in-Err-new-clause-others
returns-in-Err-new-clause-others g c = λ s p other. c.keeper_back.ensures.others s p other ∙ c.in-Ok.ensures.others s p other
