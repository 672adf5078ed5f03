use Rattle.merge_world.proofs.Happenings.{wait-happens}
use Rattle.merge_world.proofs.world.Sites.wait_event.Goals as goal

pub returns : goal.returns
returns g c = λ h. wait-happens (g.P.PublisherSite.view c.args.self.now.publisher) _ _ _ c.args.seconds h
