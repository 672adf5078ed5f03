use Rattle.std.proofs.Common.{Err, Ok}
use Rattle.merge_world.proofs.Locals.{makes-publisher}
use Rattle.merge_world.proofs.world.Sites.make_at_publisher.Goals as goal

pub returns-in-Ok : goal.returns-in-Ok
returns-in-Ok g c = makes-publisher _ _ _ (g.P.PublisherSite.view c.args.self.now.publisher) (g.P.PublisherSite.view c.local.new.self) c.in-Ok.ensures.publication _ (Ok c.in-Ok.row) c.in-Ok.ensures.called

pub returns-in-Err : goal.returns-in-Err
returns-in-Err g c = makes-publisher _ _ _ (g.P.PublisherSite.view c.args.self.now.publisher) (g.P.PublisherSite.view c.local.new.self) c.in-Err.ensures.publication _ (Err c.in-Err.refusal) c.in-Err.ensures.called
