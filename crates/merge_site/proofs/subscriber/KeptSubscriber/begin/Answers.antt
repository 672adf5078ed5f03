use Rattle.merge_site.proofs.Bare.{subscriber_begun}
use Rattle.merge_site.proofs.subscriber.KeptSubscriber.begin.Goals as goal

pub invariant_of-result : goal.invariant_of-result
invariant_of-result g c = subscriber_begun _ _ c.requires.valid _ c.in-Ok.ensures.tables _ c.requires.empty
