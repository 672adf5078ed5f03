use Rattle.std.proofs.Common.{arith, refl, ◌∙◌}
use Rattle.std.proofs.lemmas.Result.{err_from_is_err_and}
use Rattle.merge_agent.specs.Sessions.{Uploads}
use Rattle.merge_agent.proofs.Loops.{stage-breaks, stage-ends, uploads-more}
use Rattle.merge_agent.proofs.Steps.{leads-none}
use Rattle.merge_agent.proofs.stages.upload_all.Goals as goal

pub uploads-init : goal.uploads-init
uploads-init g c = (omega arith, leads-none c.args.address.now _ _ refl, refl)

pub overflow_add-count : goal.overflow_add-count
overflow_add-count g c =
    let number = rw c.in-Some.is at c.in_ok-exchange.ensures.advances in
    omega (arith, number.0, c.uploads.invariant.0)

pub uploads-preserved : goal.uploads-preserved
uploads-preserved g c =
    let number = rw c.in-Some.is at c.in_ok-exchange.ensures.advances in
    (omega (arith, number.1, c.uploads.invariant.0), uploads-more c.args.address.now _ c.uploads.count 0 _ _ _ _ c.uploads.invariant.1 (rw c.in-Some.is at c.in_ok-exchange.ensures.exchanges), c.in_ok-exchange.ensures.peer ∙ c.uploads.invariant.2)

pub uploads-preserved-in-Some : goal.uploads-preserved-in-Some
uploads-preserved-in-Some g c =
    let number = rw c.in-Some.is at c.in_ok-exchange.ensures.advances in
    (omega (arith, number.1, c.uploads.invariant.0), uploads-more c.args.address.now _ c.uploads.count 0 _ _ _ _ c.uploads.invariant.1 (rw c.in-Some.is at c.in_ok-exchange.ensures.exchanges), c.in_ok-exchange.ensures.peer ∙ c.uploads.invariant.2)

pub uploads-preserved-in-Some-2 : goal.uploads-preserved-in-Some-2
uploads-preserved-in-Some-2 g c =
    let number = rw c.in-Some.is at c.in_ok-exchange.ensures.advances in
    (omega (arith, number.1, c.uploads.invariant.0), uploads-more c.args.address.now _ c.uploads.count 0 _ _ _ _ c.uploads.invariant.1 (rw c.in-Some.is at c.in_ok-exchange.ensures.exchanges), c.in_ok-exchange.ensures.peer ∙ c.uploads.invariant.2)

pub uploads-preserved-in-Some-3 : goal.uploads-preserved-in-Some-3
uploads-preserved-in-Some-3 g c =
    let number = rw c.in-Some.is at c.in_ok-exchange.ensures.advances in
    (omega (arith, number.1, c.uploads.invariant.0), uploads-more c.args.address.now _ c.uploads.count 0 _ _ _ _ c.uploads.invariant.1 (rw c.in-Some.is at c.in_ok-exchange.ensures.exchanges), c.in_ok-exchange.ensures.peer ∙ c.uploads.invariant.2)

pub uploads-preserved-in-Some-4 : goal.uploads-preserved-in-Some-4
uploads-preserved-in-Some-4 g c =
    let number = rw c.in-Some.is at c.in_ok-exchange.ensures.advances in
    (omega (arith, number.1, c.uploads.invariant.0), uploads-more c.args.address.now _ c.uploads.count 0 _ _ _ _ c.uploads.invariant.1 (rw c.in-Some.is at c.in_ok-exchange.ensures.exchanges), c.in_ok-exchange.ensures.peer ∙ c.uploads.invariant.2)

pub uploads-smaller : goal.uploads-smaller
uploads-smaller g c =
    let number = rw c.in-Some.is at c.in_ok-exchange.ensures.advances in
    omega (arith, number.0, number.1)

pub returns-in_err-exchange-clause-goes : goal.returns-in_err-exchange-clause-goes
returns-in_err-exchange-clause-goes g c =
    let p = err_from_is_err_and c.from_residual.result c.from_residual.ensures.1 in
    rw (p.1, p.2) (stage-breaks c.args.address.now _ Uploads c.uploads.count 0 _ _ _ c.in_err-exchange.field-0.0 tt c.uploads.invariant.1 c.in_err-exchange.ensures.exchanges)

pub returns-in-None-clause-goes : goal.returns-in-None-clause-goes
returns-in-None-clause-goes g c = stage-ends c.args.address.now _ Uploads c.uploads.count 0 _ _ _ tt c.uploads.invariant.1 (rw c.in-None.is at c.in_ok-exchange.ensures.exchanges)

pub returns-in_err-exchange-clause-peer : goal.returns-in_err-exchange-clause-peer
returns-in_err-exchange-clause-peer g c = c.in_err-exchange.ensures.peer ∙ c.uploads.invariant.2

pub returns-in-None-clause-peer : goal.returns-in-None-clause-peer
returns-in-None-clause-peer g c = c.in_ok-exchange.ensures.peer ∙ c.uploads.invariant.2
