use Rattle.std.proofs.Common.{true}
use Rattle.merge_model.specs.Subscriber.{subscriber_local}
use Rattle.merge_site.proofs.SubscriberCalls.{always, sub-called}
use Rattle.merge_site.proofs.subscriber.KeptSubscriber.local.Goals as goal

pub returns-clause-called : goal.returns-clause-called
returns-clause-called g c =
    sub-called _ c.self.inside.subscriber c.draft_local-worked.new.self c.finish.new.subscriber (g.K.Keeper.count c.self.inside.keeper) (g.K.Keeper.count c.finish.new.keeper) c.self.view_is c.draft_local-worked.ensures.same (λ publication s. subscriber_local publication c.args.now c.args.change.now s) (λ s answer. true) true c.draft_local-worked.result c.finish.result c.draft_local-worked.ensures.made c.draft_local-worked.ensures.refused c.finish.ensures.called (always c.draft_local-worked.result)
