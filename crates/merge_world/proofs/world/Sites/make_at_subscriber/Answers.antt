use Rattle.std.proofs.Common.{Err, Ok}
use Rattle.merge_world.proofs.Finding.{placed-place}
use Rattle.merge_world.proofs.Locals.{makes-nowhere, makes-subscriber}
use Rattle.merge_world.proofs.world.Sites.make_at_subscriber.Goals as goal

pub returns-in-None : goal.returns-in-None
returns-in-None g c = makes-nowhere g.S.SubscriberSite.view (g.P.PublisherSite.view c.args.self.now.publisher) _ _ _ c.args.site c.args.change.now c.requires.subscriber c.in-None.ensures.place

pub returns-in-Ok : goal.returns-in-Ok
returns-in-Ok g c = makes-subscriber g.S.SubscriberSite.view (g.P.PublisherSite.view c.args.self.now.publisher) _ _ _ c.in-Some.place c.index_mut.result.now c.local.new.self c.args.site c.args.change.now c.requires.ordered c.requires.subscriber
    c.in-Some.ensures.place c.index_mut.ensures.value c.in-Ok.ensures.site c.in-Ok.ensures.publication (Ok c.in-Ok.row) c.in-Ok.ensures.called

pub returns-in-Err : goal.returns-in-Err
returns-in-Err g c = makes-subscriber g.S.SubscriberSite.view (g.P.PublisherSite.view c.args.self.now.publisher) _ _ _ c.in-Some.place c.index_mut.result.now c.local.new.self c.args.site c.args.change.now c.requires.ordered c.requires.subscriber
    c.in-Some.ensures.place c.index_mut.ensures.value c.in-Err.ensures.site c.in-Err.ensures.publication (Err c.in-Err.refusal) c.in-Err.ensures.called

pub local-requires-clause-place : goal.local-requires-clause-place
local-requires-clause-place g c = placed-place g.S.SubscriberSite.view (g.P.PublisherSite.view c.args.self.now.publisher) _ _ _ c.in-Some.place c.index_mut.result.now c.args.site.0 c.args.change.now c.requires.ordered c.in-Some.ensures.place c.index_mut.ensures.value c.requires.placed

pub local-requires-clause-ascend : goal.local-requires-clause-ascend
local-requires-clause-ascend g c = c.requires.placed.ascend
