use Rattle.merge_site.proofs.PublisherCalls.{purge-made}
use Rattle.merge_site.proofs.publisher.KeptPublisher.purge.Goals as goal

pub returns-clause-called : goal.returns-clause-called
returns-clause-called g c =
    purge-made _ c.self.inside.publisher c.draft_purge.new.self c.commit_and_purge.new.publisher _ _ c.args.now c.self.view_is c.draft_purge.ensures.same c.in_ok-commit_and_purge.ensures.count c.in_ok-purge.purge c.in_ok-purge.forgotten c.in_ok-purge.ensures.made c.in_ok-commit_and_purge.ensures.ok
