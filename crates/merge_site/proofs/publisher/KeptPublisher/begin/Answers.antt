use Rattle.merge_site.proofs.Bare.{publisher_begun}
use Rattle.merge_site.proofs.publisher.KeptPublisher.begin.Goals as goal

pub invariant_of-result : goal.invariant_of-result
invariant_of-result g c = publisher_begun _ c.requires.valid _ c.in-Ok.ensures.tables _ c.requires.empty
