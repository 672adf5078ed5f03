use Rattle.merge_sub.proofs.LocalChanges.{draw-identity, draw-ranged}
use Rattle.merge_sub.proofs.subscriber.Subscriber.draw.Goals as goal

pub returns-clause-identity : goal.returns-clause-identity
returns-clause-identity c = draw-identity _ _ c.self.view_is c.self.invariant c.args.change.now _ c.in_ok-drawn.ensures.drawn

pub returns-clause-ranged : goal.returns-clause-ranged
returns-clause-ranged c = draw-ranged _ _ c.self.view_is c.self.invariant c.args.change.now _ c.in_ok-drawn.ensures.drawn
