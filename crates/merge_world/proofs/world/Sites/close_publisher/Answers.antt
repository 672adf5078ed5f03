use Rattle.std.proofs.Common.{Err, Ok}
use Rattle.merge_world.proofs.Locals.{closes-publisher}
use Rattle.merge_world.proofs.world.Sites.close_publisher.Goals as goal

pub returns-in-Ok : goal.returns-in-Ok
returns-in-Ok g c = closes-publisher _ _ _ (g.P.PublisherSite.view c.args.self.now.publisher) (g.P.PublisherSite.view c.close_generation.new.self) c.in-Ok.ensures.publication (Ok c.in-Ok.generation) c.in-Ok.ensures.called

pub returns-in-Err : goal.returns-in-Err
returns-in-Err g c = closes-publisher _ _ _ (g.P.PublisherSite.view c.args.self.now.publisher) (g.P.PublisherSite.view c.close_generation.new.self) c.in-Err.ensures.publication (Err c.in-Err.refusal) c.in-Err.ensures.called
