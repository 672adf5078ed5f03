use Rattle.std.proofs.Common.{◌≡◌, ◌∙◌, arith, refl, true, false}
use Rattle.std.specs.Prelude.{Some}
use Rattle.std.proofs.lemmas.Result.{err_from_is_err_and}
use Rattle.merge_model.specs.declared.letter.Message.TheVariants.{Replies}
use Rattle.merge_world.specs.Sessions.{grants}
use Rattle.merge_agent.specs.Sessions.{Asks}
use Rattle.merge_agent.proofs.Loops.{asks-more, stage-breaks, stage-ends}
use Rattle.merge_agent.proofs.Steps.{leads-none}
use Rattle.merge_agent.proofs.stages.ask_for_ranges.Goals as goal

pub asks-init : goal.asks-init
asks-init g c = (λ x. leads-none c.args.address.now _ _ refl, refl)

pub asks-preserved : goal.asks-preserved
asks-preserved g c =
    let granted : grants (Some (Replies c.in-Some.reply)) ≡ true = cc in (
      λ x. asks-more c.args.address.now _ x 0 _ _ _ c.in-Some.reply true granted (c.asks.invariant.0 x) (rw c.in-Some.is at c.in_ok-exchange.ensures.exchanges),
      c.in_ok-exchange.ensures.peer ∙ c.asks.invariant.1,
    )

pub asks-preserved-else-not-grants_range : goal.asks-preserved-else-not-grants_range
asks-preserved-else-not-grants_range g c =
    let granted : grants (Some (Replies c.in-Some.reply)) ≡ true = cc in (
      λ x. asks-more c.args.address.now _ x 0 _ _ _ c.in-Some.reply true granted (c.asks.invariant.0 x) (rw c.in-Some.is at c.in_ok-exchange.ensures.exchanges),
      c.in_ok-exchange.ensures.peer ∙ c.asks.invariant.1,
    )

pub asks-smaller : goal.asks-smaller
asks-smaller g c =
    let number = rw c.in-Some.is at c.in_ok-exchange.ensures.advances in
    omega (arith, number.0, number.1)

pub returns-in_err-exchange-clause-goes : goal.returns-in_err-exchange-clause-goes
returns-in_err-exchange-clause-goes g c x =
    let p = err_from_is_err_and c.from_residual.result c.from_residual.ensures.1 in
    rw (p.1, p.2) (stage-breaks c.args.address.now _ Asks x 0 _ _ _ c.in_err-exchange.field-0.0 tt (c.asks.invariant.0 x) c.in_err-exchange.ensures.exchanges)

pub returns-in-None-clause-goes : goal.returns-in-None-clause-goes
returns-in-None-clause-goes g c x = stage-ends c.args.address.now _ Asks x 0 _ _ _ tt (c.asks.invariant.0 x) (rw c.in-None.is at c.in_ok-exchange.ensures.exchanges)

pub returns-then-not-grants_range-clause-goes : goal.returns-then-not-grants_range-clause-goes
returns-then-not-grants_range-clause-goes g c x =
    let none : grants (Some (Replies c.in-Some.reply)) ≡ false = cc in
    asks-more c.args.address.now _ x 0 _ _ _ c.in-Some.reply false none (c.asks.invariant.0 x) (rw c.in-Some.is at c.in_ok-exchange.ensures.exchanges)

pub returns-in_err-exchange-clause-peer : goal.returns-in_err-exchange-clause-peer
returns-in_err-exchange-clause-peer g c = c.in_err-exchange.ensures.peer ∙ c.asks.invariant.1

pub returns-in-None-clause-peer : goal.returns-in-None-clause-peer
returns-in-None-clause-peer g c = c.in_ok-exchange.ensures.peer ∙ c.asks.invariant.1

pub returns-then-not-grants_range-clause-peer : goal.returns-then-not-grants_range-clause-peer
returns-then-not-grants_range-clause-peer g c = c.in_ok-exchange.ensures.peer ∙ c.asks.invariant.1
