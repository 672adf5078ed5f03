use Rattle.std.proofs.Common.{◌≡◌, ◌∙◌, arith, refl, true, false}
use Rattle.std.specs.Prelude.{None, Some, unwrap_or}
use Rattle.std.proofs.lemmas.Bool.{le-leb, lt-leb}
use Rattle.std.proofs.lemmas.Result.{err_from_is_err_and}
use Rattle.merge_model.specs.declared.letter.Message.TheVariants.{Replies}
use Rattle.merge_world.specs.Sessions.{download_in}
use Rattle.merge_agent.specs.Sessions.{Downloads}
use Rattle.merge_agent.proofs.Loops.{downloads-more, downloads-stray, stage-breaks}
use Rattle.merge_agent.proofs.Steps.{leads-none}
use Rattle.merge_agent.proofs.stages.download_all.Goals as goal

pub downloads-init : goal.downloads-init
downloads-init g c = (omega arith, λ x. leads-none c.args.address.now _ _ refl, refl)

pub returns-in_err-reply-clause-goes : goal.returns-in_err-reply-clause-goes
returns-in_err-reply-clause-goes g c x =
    let p = err_from_is_err_and c.from_residual.result c.from_residual.ensures.1 in
    rw (p.1, p.2) (stage-breaks c.args.address.now _ (Downloads c.downloads.target) x c.downloads.count _ _ _ c.in_err-reply.field-0.0 tt (c.downloads.invariant.1 x) c.in_err-reply.ensures.exchanges)

pub returns-in_default-downloaded-clause-goes : goal.returns-in_default-downloaded-clause-goes
returns-in_default-downloaded-clause-goes g c x =
    let none : download_in (Some (Replies c.in-Some.reply)) ≡ None = cc in
    downloads-stray c.args.address.now _ c.downloads.target x c.downloads.count _ _ _ c.in-Some.reply none (c.downloads.invariant.1 x) (rw c.in-Some.is at c.in_ok-reply.ensures.exchanges)

pub returns-then-last-reply-clause-goes : goal.returns-then-last-reply-clause-goes
returns-then-last-reply-clause-goes g c x =
    let told : download_in (Some (Replies c.in-Some.reply)) ≡ Some c.in-Some-downloaded.reply = cc in
    let later : c.unwrap_or-last.result ≡ unwrap_or c.downloads.target c.in-Some-downloaded.reply.last = cc in
    downloads-more c.args.address.now _ c.downloads.target x c.downloads.count _ _ _ c.in-Some.reply c.in-Some-downloaded.reply c.brought-count.result c.unwrap_or-last.result true told c.brought-count.ensures.value later (le-leb c.unwrap_or-last.result c.in-Some-downloaded.reply.from c.if-last-reply.true)
    (c.downloads.invariant.1 x) (rw c.in-Some.is at c.in_ok-reply.ensures.exchanges)

pub downloads-preserved : goal.downloads-preserved
downloads-preserved g c =
    let number = rw c.in-Some.is at c.in_ok-reply.ensures.advances in (
      omega (arith, number.1, c.downloads.invariant.0, c.brought-count.ensures.within),
      λ x.
          let told : download_in (Some (Replies c.in-Some.reply)) ≡ Some c.in-Some-downloaded.reply = cc in
          let later : c.unwrap_or-last.result ≡ unwrap_or c.downloads.target c.in-Some-downloaded.reply.last = cc in
          downloads-more c.args.address.now _ c.downloads.target x c.downloads.count _ _ _ c.in-Some.reply c.in-Some-downloaded.reply c.brought-count.result c.unwrap_or-last.result false told c.brought-count.ensures.value later (lt-leb c.unwrap_or-last.result c.in-Some-downloaded.reply.from c.if-last-reply.false)
          (c.downloads.invariant.1 x) (rw c.in-Some.is at c.in_ok-reply.ensures.exchanges),
      c.in_ok-reply.ensures.peer ∙ c.downloads.invariant.2,
    )

pub returns-in_err-reply-clause-peer : goal.returns-in_err-reply-clause-peer
returns-in_err-reply-clause-peer g c = c.in_err-reply.ensures.peer ∙ c.downloads.invariant.2

pub returns-in_default-downloaded-clause-peer : goal.returns-in_default-downloaded-clause-peer
returns-in_default-downloaded-clause-peer g c = c.in_ok-reply.ensures.peer ∙ c.downloads.invariant.2

pub returns-then-last-reply-clause-peer : goal.returns-then-last-reply-clause-peer
returns-then-last-reply-clause-peer g c = c.in_ok-reply.ensures.peer ∙ c.downloads.invariant.2
