use Rattle.merge_model.specs.Judge.ByNumbers.{by_rows}
use Rattle.merge_model.specs.Subscriber.Sending.{make_upload}
use Rattle.merge_site.proofs.SubscriberCalls.{message-called}
use Rattle.merge_site.proofs.subscriber.KeptSubscriber.make_upload.Goals as goal

pub returns-clause-called : goal.returns-clause-called
returns-clause-called g c =
    message-called _ c.self.inside.subscriber c.draft_upload-worked.new.self c.finish_message.new.subscriber (g.K.Keeper.count c.self.inside.keeper) (g.K.Keeper.count c.finish_message.new.keeper) c.self.view_is c.draft_upload-worked.ensures.same (λ publication s. make_upload (by_rows s) c.args.now s) c.draft_upload-worked.result c.finish_message.result c.draft_upload-worked.ensures.made c.draft_upload-worked.ensures.refused c.finish_message.ensures.called
