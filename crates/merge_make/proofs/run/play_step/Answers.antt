-- The event is the step's, and no step ends a run.
use Rattle.std.proofs.Common.{◌∙◌}
use Rattle.std.proofs.lemmas.Result.{err_from_is_err_and}
use Rattle.merge_make.proofs.SoFar.{step-done, step-in-part, step-left}
use Rattle.merge_make.proofs.run.play_step.Goals as goal

pub add-requires-clause-made : goal.add-requires-clause-made
add-requires-clause-made g c = c.publication.ensures ∙ c.in-Ok.ensures.happened.publication ∙ c.requires.made

pub returns-clause-done : goal.returns-clause-done
returns-clause-done g c = step-done c.add.result _ _ _ _ _ _ _ _ _ c.in_ok-event.ensures c.in-Ok.ensures.happened c.add.ensures.refusals c.add.ensures.reports

pub returns-clause-stays : goal.returns-clause-stays
returns-clause-stays g c = c.in-Ok.ensures.happened.sites

pub returns-in_err-event-clause-part : goal.returns-in_err-event-clause-part
returns-in_err-event-clause-part g c =
    let p = err_from_is_err_and c.from_residual.result c.from_residual.ensures.1 in
    rw p.1 (step-left _ _ _)

pub returns-clause-part : goal.returns-clause-part
returns-clause-part g c = step-in-part c.add.result _ _ _ _ _ _ _ c.in_ok-event.ensures c.in-Ok.ensures.happened
