use Rattle.std.proofs.Common.{inl, refl}
use Rattle.merge_world.proofs.Resumings.{resumes-publisher}
use Rattle.merge_world.proofs.world.Sites.restart_publisher.Goals as goal

pub returns-clause-resumes : goal.returns-clause-resumes
returns-clause-resumes g c = resumes-publisher _ _ _ (g.P.PublisherSite.view c.args.self.now.publisher) (g.P.PublisherSite.view c.restart.new.self) c.restart.ensures.publication c.restart.result c.restart.ensures.restarted

pub returns-clause-damaged : goal.returns-clause-damaged
returns-clause-damaged g c = λ table key is. record { damage = inl (refl, c.restart.ensures.damaged table key is) }
