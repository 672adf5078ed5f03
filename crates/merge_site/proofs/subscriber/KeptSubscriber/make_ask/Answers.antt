use Rattle.std.proofs.Common.{inr, true}
use Rattle.merge_model.specs.Subscriber.Sending.{make_ask}
use Rattle.merge_site.proofs.SubscriberCalls.{always, sub-called}
use Rattle.merge_site.proofs.subscriber.KeptSubscriber.make_ask.Goals as goal

pub returns-clause-called : goal.returns-clause-called
returns-clause-called g c =
    sub-called _ c.self.inside.subscriber c.draft_ask-worked.new.self c.finish.new.subscriber (g.K.Keeper.count c.self.inside.keeper) (g.K.Keeper.count c.finish.new.keeper) c.self.view_is c.draft_ask-worked.ensures.same (λ publication s. make_ask s) (λ s answer. true) true c.draft_ask-worked.result c.finish.result c.draft_ask-worked.ensures.made (λ why no. inr (c.draft_ask-worked.ensures.refused why no)) c.finish.ensures.called (always c.draft_ask-worked.result)
