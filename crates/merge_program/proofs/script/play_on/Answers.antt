-- The sites begin as those of the model's empty world.
use Rattle.std.proofs.Common.{ap, arith, subst, sym}
use Rattle.merge_script.specs.Lines.{lines_of}
use Rattle.merge_world.specs.Views.{IsOrdered, SitesView}
use Rattle.merge_program.proofs.Fresh.{fresh-ordered}
use Rattle.merge_program.proofs.Loads.{few-lines}
use Rattle.merge_program.proofs.Plays.{in-part, play-ends}
use Rattle.merge_program.proofs.script.play_on.Goals as goal

pub play_lines-played-requires-clause-ordered : goal.play_lines-played-requires-clause-ordered
play_lines-played-requires-clause-ordered g c = subst (λ (v : SitesView). IsOrdered v) (sym c.requires.fresh) (fresh-ordered _)

pub play_lines-played-requires-clause-early : goal.play_lines-played-requires-clause-early
play_lines-played-requires-clause-early g c = let start = ap (λ (v : SitesView). v.moment.0) c.requires.fresh in omega (arith, start)

pub returns-clause-ends : goal.returns-clause-ends
returns-clause-ends g c = λ before after rose stored kept empty damaged.
    let e = c.play_lines-played.ensures in
    let typed = c.script_events_are_typed.ensures (lines_of c.args.script.now) (few-lines c.args.script.now c.requires.short) in
    play-ends c.all_promises_hold.ensures.runs c.steps_that_fail_show.ensures.machine _ c.requires.valid _ _ before after rose _ _ _ c.typed_runs_load.ensures.loads typed stored kept empty _ _ damaged _ _ _ _ c.requires.fresh (omega arith) (omega arith) _ _ c.ending_of.ensures e.whole e.done e.no_event e.before e.write e.restart

pub returns-clause-part : goal.returns-clause-part
returns-clause-part g c = λ before after rose. in-part c.all_promises_hold.ensures.runs c.steps_that_fail_show.ensures.machine _ c.requires.valid _ _ before after rose _ _ _ _ _ _ c.requires.fresh (omega arith) c.play_lines-played.ensures.part
