use Rattle.std.proofs.lemmas.Result.{on_ok_weaker}
use Rattle.merge_part.proofs.Entries.{replaced, replaced_same}
use Rattle.merge_part.proofs.index.replace.Goals as goal

pub returns : goal.returns
returns c = on_ok_weaker c.come_any.result (λ comes. replaced c.args.draft.now c.leave_any.new.draft c.come_any.new.draft c.args.number _ _ c.args.row c.in_ok-leave_any.ensures comes) c.come_any.ensures

pub returns-then-stays : goal.returns-then-stays
returns-then-stays c = replaced_same c.args.draft.now c.args.number _ _ c.args.row (c.stays.ensures.same c.if-stays.true)
