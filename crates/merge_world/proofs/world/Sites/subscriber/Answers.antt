use Rattle.std.proofs.Common.{[], sym}
use Rattle.merge_world.proofs.Finding.{found-place, unfound}
use Rattle.merge_world.proofs.world.Sites.subscriber.Goals as goal

pub returns-in-Some : goal.returns-in-Some
returns-in-Some g c = sym (found-place g.S.SubscriberSite.view (g.P.PublisherSite.view c.args.self.now.publisher) c.args.self.now.pool.items c.args.self.now.moment c.args.self.now.subscribers.items c.in-Some.place c.index.result.now c.args.site [] c.requires
    c.in-Some.ensures.place c.index.ensures)

pub returns-in-None : goal.returns-in-None
returns-in-None g c = sym (unfound g.S.SubscriberSite.view (g.P.PublisherSite.view c.args.self.now.publisher) c.args.self.now.pool.items c.args.self.now.moment c.args.self.now.subscribers.items c.args.site [] c.in-None.ensures.place)
