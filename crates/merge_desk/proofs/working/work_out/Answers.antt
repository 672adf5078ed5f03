use Rattle.std.proofs.Common.{◌∙◌, ap, sym}
use Rattle.merge_model.specs.World.Calls.{questions_on}
use Rattle.merge_resolve.specs.Asked.{tallies_after}
use Rattle.merge_draft.proofs.Decided.{handled-by}
use Rattle.merge_desk.specs.Replay.{asked_if_made, tables_and_reply}
use Rattle.merge_desk.proofs.working.work_out.Goals as goal

pub returns-in-Ok-clause-left : goal.returns-in-Ok-clause-left
returns-in-Ok-clause-left g c =
    let old = g.P.DraftingPublisher.view c.args.publisher.now in
    ap (tables_and_reply old.tables) (sym (handled-by old.publication old.says old.tallies c.args.now c.args.request.now old.tables _ _ c.in-Ok.ensures.made c.in-Ok.ensures.decisions))

pub returns-in-Ok-clause-asked : goal.returns-in-Ok-clause-asked
returns-in-Ok-clause-asked g c =
    let old = g.P.DraftingPublisher.view c.args.publisher.now in
    c.in-Ok.ensures.asked ∙ ap (λ made. asked_if_made made old.tallies (tallies_after old.tallies (questions_on old.publication c.args.now c.args.request.now old.tables)))
    (sym (handled-by old.publication old.says old.tallies c.args.now c.args.request.now old.tables _ _ c.in-Ok.ensures.made c.in-Ok.ensures.decisions))
