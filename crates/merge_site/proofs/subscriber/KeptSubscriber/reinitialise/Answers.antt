use Rattle.std.proofs.Common.{true}
use Rattle.merge_model.specs.Judge.ByNumbers.{by_rows}
use Rattle.merge_model.specs.Subscriber.Reinit.{reinitialise}
use Rattle.merge_site.proofs.SubscriberCalls.{always, sub-called}
use Rattle.merge_site.proofs.subscriber.KeptSubscriber.reinitialise.Goals as goal

pub returns-clause-called : goal.returns-clause-called
returns-clause-called g c =
    sub-called _ c.self.inside.subscriber c.draft_anew-worked.new.self c.finish.new.subscriber (g.K.Keeper.count c.self.inside.keeper) (g.K.Keeper.count c.finish.new.keeper) c.self.view_is c.draft_anew-worked.ensures.same (λ publication s. reinitialise (by_rows s) c.args.now s) (λ s answer. true) true c.draft_anew-worked.result c.finish.result c.draft_anew-worked.ensures.made c.draft_anew-worked.ensures.refused c.finish.ensures.called (always c.draft_anew-worked.result)
