-- The sites begin as those of the model's empty world.
use Rattle.std.proofs.Common.{ap, arith, subst, sym}
use Rattle.std.proofs.lemmas.Result.{IfOk-weaker}
use Rattle.merge_world.specs.Views.{IsOrdered, SitesView}
use Rattle.merge_program.proofs.Fresh.{fresh-ordered}
use Rattle.merge_program.proofs.Makes.{summary-of}
use Rattle.merge_program.proofs.make.make_on.Goals as goal

pub play_script-requires-clause-ordered : goal.play_script-requires-clause-ordered
play_script-requires-clause-ordered g c = subst (λ (v : SitesView). IsOrdered v) (sym c.requires.fresh) (fresh-ordered _)

pub play_script-requires-clause-clock : goal.play_script-requires-clause-clock
play_script-requires-clause-clock g c = let start = ap (λ (v : SitesView). v.moment.0) c.requires.fresh in omega (arith, start)

pub play_script-requires-clause-made : goal.play_script-requires-clause-made
play_script-requires-clause-made g c = ap (λ (v : SitesView). v.publication) c.requires.fresh

pub returns-clause-summary : goal.returns-clause-summary
returns-clause-summary g c =
    IfOk-weaker c.play_script.result _ _ (λ text summed. summary-of c.all_promises_hold.ensures.runs c.steps_that_fail_show.ensures.machine _ _ _ _ _ text c.requires.fresh summed) c.play_script.ensures.summed
