use Rattle.merge_world.specs.Messages.{sending_of}
use Rattle.merge_world.proofs.Messages.{does-so, has-none, posts, send-fails, sends-nowhere}
use Rattle.merge_world.proofs.world.Sites.send_with_room.Goals as goal

pub returns-in-None : goal.returns-in-None
returns-in-None g c = sends-nowhere g.S.SubscriberSite.view (g.P.PublisherSite.view c.args.self.now.publisher) _ _ _ (sending_of c.args.sending) c.args.site c.in-None.ensures.place

pub returns-in-Ok-None : goal.returns-in-Ok-None
returns-in-Ok-None g c = has-none g.S.SubscriberSite.view (g.P.PublisherSite.view c.args.self.now.publisher) _ _ _ (sending_of c.args.sending) c.in-Some.place c.index_mut.result.now _ c.args.site c.requires.ordered
    c.in-Some.ensures.place c.index_mut.ensures.value c.in-Ok-None.ensures.site c.in-Ok-None.ensures.publication _ c.in-Ok-None.field-0-is c.in-Ok-None.ensures.called

pub returns-in-Ok-Some : goal.returns-in-Ok-Some
returns-in-Ok-Some g c = does-so _ _ _ _ _ _ c.post.ensures.pool c.post.ensures.number
    (posts g.S.SubscriberSite.view (g.P.PublisherSite.view c.args.self.now.publisher) _ _ _ (sending_of c.args.sending) c.in-Some.place c.index_mut.result.now _ c.args.site c.requires.ordered
    c.in-Some.ensures.place c.index_mut.ensures.value c.in-Ok-Some.ensures.site c.in-Ok-Some.ensures.publication _ c.in-Ok-Some.request c.in-Ok-Some.field-0-is c.in-Ok-Some.ensures.called)

pub returns-in-Err : goal.returns-in-Err
returns-in-Err g c = send-fails g.S.SubscriberSite.view (g.P.PublisherSite.view c.args.self.now.publisher) _ _ _ (sending_of c.args.sending) c.in-Some.place c.index_mut.result.now _ c.args.site c.requires.ordered
    c.in-Some.ensures.place c.index_mut.ensures.value c.in-Err.ensures.site c.in-Err.ensures.publication c.in-Err.refusal c.in-Err.ensures.called
