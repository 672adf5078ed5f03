use Rattle.std.proofs.Common.{◌≡◌, ◌++◌, ◌∷◌, ◌+◌, ◌∙◌, [], arith, length, refl, rules}
use Rattle.merge_desk.proofs.Entries.{desk-next, same-says}
use Rattle.merge_desk.specs.Marks.{mark_on}
use Rattle.merge_desk.specs.Working.{left_by}
use Rattle.merge_desk.specs.declared.entry.Entry.{Entry}
use Rattle.merge_desk.proofs.state.DeskState.step_with.Goals as goal

pub invariant_of-self-in-Ok : goal.invariant_of-self-in-Ok
invariant_of-self-in-Ok g c =
    let was = c.self.invariant in
    let es = c.self.inside.journal.items in
    let old = g.P.DraftingPublisher.view c.self.inside.publisher in
    let worked = c.in_ok-worked.worked in
    let e : Entry = record { seat = c.args.number; moment = c.args.now; request = c.in_ok-request.request; decisions = worked.decisions; mark = c.in_ok-mark.mark } in
    let pushed : c.push_reserved.new.self.items ≡ es ++ e ∷ [] = rw (c.push_reserved.ensures.items, c.reserve.ensures.items) refl in
    let same : c.in_ok-request.request ≡ c.args.request.now = search rules in
    let marked : c.in_ok-mark.mark ≡ mark_on (length es + 1) c.args.now c.args.request.now worked.reply = search rules in
    let says = same-says (g.P.DraftingPublisher.view c.put.new.publisher).says (g.P.DraftingPublisher.view c.work_out.new.publisher).says c.put.ensures.steady
    ∙ same-says (g.P.DraftingPublisher.view c.work_out.new.publisher).says old.says c.work_out.ensures.steady in
    let kept = desk-next g.O.Opening.publication g.O.Opening.tables g.O.Opening.says g.O.Opening.count old (g.P.DraftingPublisher.view c.put.new.publisher) (g.P.DraftingPublisher.view c.work_out.new.publisher).tables
    es c.push_reserved.new.self.items c.self.inside.calls.total c.audit.new.self.total c.self.inside.faults.total c.self.inside.permits.amount c.merge.new.self.amount e c.args.request.now worked.reply (λ p. left_by g.P.DraftingPublisher.after worked.work p worked.reply)
    was.0 pushed same c.in_ok-worked.ensures.decisions marked c.in_ok-worked.ensures.left c.work_out.ensures.tables (c.in-Ok.ensures.ok worked.reply)
    (c.put.ensures.publication ∙ c.work_out.ensures.publication) says (c.audit.ensures.total ∙ c.add.ensures.total) (omega (arith, c.put.ensures.later, c.work_out.ensures.faults)) (omega (arith, c.merge.ensures.amount, c.requires.permit)) in
    (kept, was.1, was.2, was.3, was.4)
