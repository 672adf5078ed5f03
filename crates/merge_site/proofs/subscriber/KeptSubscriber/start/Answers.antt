-- A site that is started is a subscription, and so is one whose store does not load.
use Rattle.std.proofs.Common.{inl, inr, refl}
use Rattle.std.proofs.lemmas.Result.{IfErr-weaker}
use Rattle.merge_site.proofs.Called.{ok-all}
use Rattle.merge_site.proofs.subscriber.KeptSubscriber.start.Goals as goal

pub returns-in-Ok-clause-subscribes : goal.returns-in-Ok-clause-subscribes
returns-in-Ok-clause-subscribes g c = ok-all c.load.result (λ s. c.in-Ok.ensures.ok)

pub returns-in-Ok-clause-err : goal.returns-in-Ok-clause-err
returns-in-Ok-clause-err g c = IfErr-weaker c.load.result _ _ (λ n not. inr (c.in-Ok.ensures.ok, not)) c.load.ensures.err

pub returns-in-Err-clause-err : goal.returns-in-Err-clause-err
returns-in-Err-clause-err g c = inl (c.in-Err.ensures.err.0, c.in-Err.ensures.err.1, refl)
