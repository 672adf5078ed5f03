use Rattle.merge_sub.proofs.Restored.{held-stands}
use Rattle.merge_sub.proofs.subscriber.Subscriber.can_stand.Goals as goal

pub returns-clause-stands : goal.returns-clause-stands
returns-clause-stands c = held-stands _ _ c.self.view_is c.self.invariant c.is_ordered.ensures.rows c.is_ordered-2.ensures.rows c.closings.ensures.sound c.rows.ensures.rising
