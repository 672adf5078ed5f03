use Rattle.merge_world.proofs.Resumings.{damaged-among, resumes-nowhere, resumes-subscriber}
use Rattle.merge_world.proofs.world.Sites.restart_subscriber.Goals as goal

pub returns-in-None-clause-resumes : goal.returns-in-None-clause-resumes
returns-in-None-clause-resumes g c = resumes-nowhere _

pub returns-in-Some-clause-resumes : goal.returns-in-Some-clause-resumes
returns-in-Some-clause-resumes g c = resumes-subscriber g.S.SubscriberSite.view (g.P.PublisherSite.view c.args.self.now.publisher) _ _ _ c.in-Some.place c.index_mut.result.now c.restart.new.self c.args.site.0
    c.in-Some.ensures.place c.index_mut.ensures.value c.restart.ensures.site c.restart.ensures.publication c.restart.result c.restart.ensures.restarted

pub returns-in-Some-clause-damaged : goal.returns-in-Some-clause-damaged
returns-in-Some-clause-damaged g c = λ table key is. damaged-among g.S.SubscriberSite.view _ _ _ _ c.in-Some.place c.index_mut.result.now c.restart.new.self c.args.site
    c.in-Some.ensures.place c.index_mut.ensures.value c.restart.ensures.site table key (c.restart.ensures.damaged table key is)
