use Rattle.merge_site.proofs.publisher.KeptPublisher.resume.Goals as goal

pub invariant_of-result : goal.invariant_of-result
invariant_of-result g c = rw c.in-Ok.ensures.tables c.requires.kept
