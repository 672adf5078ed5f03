use Rattle.std.proofs.Common.{◌≡◌, true, false}
use Rattle.std.proofs.lemmas.Result.{err_from_is_err_and}
use Rattle.merge_agent.proofs.Loops.{joins-breaks, joins-done, joins-none}
use Rattle.merge_agent.proofs.stages.join_first.Goals as goal

pub returns-in_err-exchange-clause-goes : goal.returns-in_err-exchange-clause-goes
returns-in_err-exchange-clause-goes g c =
    let apart : (g.S.SubscriberSite.view c.args.site.now).tables.is_joined ≡ false = cc in
    let p = err_from_is_err_and c.from_residual.result c.from_residual.ensures.1 in
    rw (p.1, p.2) (joins-breaks c.args.address.now _ _ c.in_err-exchange.field-0.0 apart c.in_err-exchange.ensures.exchanges)

pub returns-in_ok-exchange-clause-goes : goal.returns-in_ok-exchange-clause-goes
returns-in_ok-exchange-clause-goes g c =
    let apart : (g.S.SubscriberSite.view c.args.site.now).tables.is_joined ≡ false = cc in
    joins-done c.args.address.now _ _ _ apart c.in_ok-exchange.ensures.exchanges

pub returns-else-not-is_joined-clause-goes : goal.returns-else-not-is_joined-clause-goes
returns-else-not-is_joined-clause-goes g c =
    let joined : (g.S.SubscriberSite.view c.args.site.now).tables.is_joined ≡ true = cc in
    joins-none c.args.address.now _ joined
