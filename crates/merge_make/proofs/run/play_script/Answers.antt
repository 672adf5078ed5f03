-- Each step's event is the next of the script, and behind the last one the summary is that of all.
use Rattle.std.proofs.Common.{ap, arith, rules, ◌∙◌}
use Rattle.std.proofs.lemmas.Result.{IfOk-weaker, err_from_is_err_and}
use Rattle.merge_make.specs.Rest.{rest}
use Rattle.merge_make.proofs.SoFar.{no-more, one-more, so-far-at-start, so-far-cut, so-far-done, so-far-few, so-far-made, so-far-more, so-far-ordered, so-far-unsummed}
use Rattle.merge_make.proofs.run.play_script.Goals as goal

pub loop-step-init : goal.loop-step-init
loop-step-init g c = (search rules, search rules, so-far-at-start _ _ _ _ _ (ap rest c.into_iter-step-iterator.ensures.into_iter_gives ∙ c.new-step-items.ensures) c.new-tally.ensures.refusals c.new-tally.ensures.reports)

pub play_step-requires-clause-ordered : goal.play_step-requires-clause-ordered
play_step-requires-clause-ordered g c = so-far-ordered _ _ _ _ _ _ _ c.loop-step.invariant.2 c.requires.ordered

pub play_step-requires-clause-clock : goal.play_step-requires-clause-clock
play_step-requires-clause-clock g c = let still = c.loop-step.invariant.2.moment in let clock = c.requires.clock in omega (arith, still, clock)

pub play_step-requires-clause-made : goal.play_step-requires-clause-made
play_step-requires-clause-made g c = so-far-made _ _ _ _ _ _ _ c.loop-step.invariant.2 c.requires.made

pub play_step-requires-clause-room : goal.play_step-requires-clause-room
play_step-requires-clause-room g c = let small = c.ranges.customers in so-far-few c.args.customers _ _ _ _ _ _ c.loop-step.invariant.2 (omega (arith, small))

pub loop-step-preserved : goal.loop-step-preserved
loop-step-preserved g c =
    (search rules, search rules, so-far-more _ _ _ _ _ _ _ _ _ _ _ _ (one-more c.loop-step.step-iterator c.next.new.self _ _ c.in-Some.is c.next.ensures.steps) c.loop-step.invariant.2 c.in_ok-play_step.ensures.done)

pub returns-in_err-play_step-clause-stays : goal.returns-in_err-play_step-clause-stays
returns-in_err-play_step-clause-stays g c = c.in_err-play_step.ensures.stays ∙ c.loop-step.invariant.2.happened.sites

pub returns-clause-summed : goal.returns-clause-summed
returns-clause-summed g c = IfOk-weaker c.summary.result _ _ (λ text is. so-far-done _ _ _ _ _ _ _ c.loop-step.invariant.2 (no-more c.loop-step.step-iterator c.next.new.self _ c.in-None.is c.next.ensures.steps) text is) c.summary.ensures

pub returns-clause-stays : goal.returns-clause-stays
returns-clause-stays g c = c.loop-step.invariant.2.happened.sites

pub returns-in_err-play_step-clause-part : goal.returns-in_err-play_step-clause-part
returns-in_err-play_step-clause-part g c =
    let p = err_from_is_err_and c.from_residual.result c.from_residual.ensures.1 in
    rw p.1 (so-far-cut _ _ _ _ _ _ _ _ _ _ _ (one-more c.loop-step.step-iterator c.next.new.self _ _ c.in-Some.is c.next.ensures.steps) c.loop-step.invariant.2 c.in_err-play_step.ensures.part)

pub returns-clause-part : goal.returns-clause-part
returns-clause-part g c = so-far-unsummed c.summary.result _ _ _ _ _ _ _ c.loop-step.invariant.2
