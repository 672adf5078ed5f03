use Rattle.merge_model.specs.Subscriber.Sending.{make_ranges}
use Rattle.merge_site.proofs.SubscriberCalls.{message-called}
use Rattle.merge_site.proofs.subscriber.KeptSubscriber.make_ranges.Goals as goal

pub returns-clause-called : goal.returns-clause-called
returns-clause-called g c =
    message-called _ c.self.inside.subscriber c.draft_ranges-worked.new.self c.finish_message.new.subscriber (g.K.Keeper.count c.self.inside.keeper) (g.K.Keeper.count c.finish_message.new.keeper) c.self.view_is c.draft_ranges-worked.ensures.same (λ publication s. make_ranges s) c.draft_ranges-worked.result c.finish_message.result c.draft_ranges-worked.ensures.made c.draft_ranges-worked.ensures.refused c.finish_message.ensures.called
