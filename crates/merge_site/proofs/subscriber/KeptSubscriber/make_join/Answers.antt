use Rattle.std.proofs.Common.{inr}
use Rattle.merge_model.specs.Subscriber.Sending.{make_join}
use Rattle.merge_site.proofs.SubscriberCalls.{join-nothing, message-called}
use Rattle.merge_site.proofs.subscriber.KeptSubscriber.make_join.Goals as goal

pub returns-clause-called : goal.returns-clause-called
returns-clause-called g c =
    message-called _ c.self.inside.subscriber c.draft_join-worked.new.self c.finish_message.new.subscriber (g.K.Keeper.count c.self.inside.keeper) (g.K.Keeper.count c.finish_message.new.keeper) c.self.view_is c.draft_join-worked.ensures.same (λ publication s. make_join s) c.draft_join-worked.result c.finish_message.result c.draft_join-worked.ensures.made (λ why no. inr (c.draft_join-worked.ensures.refused why no)) c.finish_message.ensures.called

pub returns-clause-nothing : goal.returns-clause-nothing
returns-clause-nothing g c =
    join-nothing _ c.self.inside.subscriber (g.K.Keeper.count c.self.inside.keeper) c.self.view_is c.draft_join-worked.result c.finish_message.result c.draft_join-worked.ensures.made c.draft_join-worked.ensures.refused c.finish_message.ensures.nothing
