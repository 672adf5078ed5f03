use Rattle.std.proofs.Common.{Err, Ok}
use Rattle.merge_world.proofs.Locals.{closes-nowhere, closes-subscriber}
use Rattle.merge_world.proofs.world.Sites.close_subscriber.Goals as goal

pub returns-in-None : goal.returns-in-None
returns-in-None g c = closes-nowhere g.S.SubscriberSite.view (g.P.PublisherSite.view c.args.self.now.publisher) _ _ _ c.args.site c.requires.subscriber c.in-None.ensures.place

pub returns-in-Ok : goal.returns-in-Ok
returns-in-Ok g c = closes-subscriber g.S.SubscriberSite.view (g.P.PublisherSite.view c.args.self.now.publisher) _ _ _ c.in-Some.place c.index_mut.result.now c.close_generation.new.self c.args.site c.requires.ordered c.requires.subscriber
    c.in-Some.ensures.place c.index_mut.ensures.value c.in-Ok.ensures.site c.in-Ok.ensures.publication (Ok c.in-Ok.generation) c.in-Ok.ensures.called

pub returns-in-Err : goal.returns-in-Err
returns-in-Err g c = closes-subscriber g.S.SubscriberSite.view (g.P.PublisherSite.view c.args.self.now.publisher) _ _ _ c.in-Some.place c.index_mut.result.now c.close_generation.new.self c.args.site c.requires.ordered c.requires.subscriber
    c.in-Some.ensures.place c.index_mut.ensures.value c.in-Err.ensures.site c.in-Err.ensures.publication (Err c.in-Err.refusal) c.in-Err.ensures.called
