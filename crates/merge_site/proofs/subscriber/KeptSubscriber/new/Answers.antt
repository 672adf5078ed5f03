-- A store that was read as empty is so, and a keeper that is given back counts what it counted before.
use Rattle.std.proofs.Common.{ap, inl, subst, ◌∙◌}
use Rattle.std.proofs.lemmas.Result.{IfErr-weaker}
use Rattle.merge_site.specs.Beginning.{IsEmptyStore}
use Rattle.merge_site.proofs.Called.{ok-all}
use Rattle.merge_site.proofs.subscriber.KeptSubscriber.new.Goals as goal

pub returns-in-Ok-clause-empty : goal.returns-in-Ok-clause-empty
returns-in-Ok-clause-empty g c = ok-all c.begin.result (λ s. subst IsEmptyStore c.check_empty.ensures.same c.in-Ok.ensures.ok)

pub returns-in-Ok-clause-err : goal.returns-in-Ok-clause-err
returns-in-Ok-clause-err g c = IfErr-weaker c.begin.result _ _ (λ n back. inl (inl (back.0, ap g.K.Keeper.count back.1 ∙ c.in-Ok.ensures.count))) c.begin.ensures.err
