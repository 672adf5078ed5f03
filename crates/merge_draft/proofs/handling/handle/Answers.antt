use Rattle.std.proofs.Common.{◌∙◌, Err, Ok, ap, arith, inr, refl, sym}
use Rattle.merge_draft.proofs.Decided.{handled-by}
use Rattle.merge_draft.proofs.handling.handle.Goals as goal

pub returns-in-Ok-clause-called : goal.returns-in-Ok-clause-called
returns-in-Ok-clause-called g c =
    let old = g.P.DraftingPublisher.view c.args.publisher.now in
    let made = handled-by old.publication old.says old.tallies c.args.now c.args.request.now old.tables _ _ c.in_ok-work.ensures.made c.in_ok-work.ensures.decisions in
    let left = c.in-Ok.ensures.ok ∙ ap (g.P.DraftingPublisher.after c.in_ok-work.field-0.work) c.draft.ensures.tables in
    (made ∙ ap (λ t. Ok (t, c.in_ok-work.field-0.reply)) (sym left), c.in-Ok.ensures.count ∙ c.draft.ensures.faults)

pub returns-in-Err-Failed-clause-called : goal.returns-in-Err-Failed-clause-called
returns-in-Err-Failed-clause-called g c =
    let old = g.P.DraftingPublisher.view c.args.publisher.now in
    let made = handled-by old.publication old.says old.tallies c.args.now c.args.request.now old.tables _ _ c.in_ok-work.ensures.made c.in_ok-work.ensures.decisions in
    let counted = c.in-Err-Failed.ensures.fault (ap Err c.in-Err-Failed.field-0-is) in
    (c.in-Err-Failed.ensures.err ∙ c.draft.ensures.tables, inr (inr (refl, (_, made, c.in_ok-work.ensures.commits counted.1), omega (arith, counted.0, c.draft.ensures.faults))))
