use Rattle.std.proofs.Common.{◌∙◌}
use Rattle.merge_site.proofs.subscriber.KeptSubscriber.resume.Goals as goal

pub restore-requires-clause-stands : goal.restore-requires-clause-stands
restore-requires-clause-stands g c = rw c.kept_of.ensures c.requires.stands

pub invariant_of-result : goal.invariant_of-result
invariant_of-result g c = rw (c.in-Ok.ensures.tables ∙ c.kept_of.ensures) c.requires.kept
