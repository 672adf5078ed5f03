use Rattle.std.specs.Prelude.{◌≡◌, ◌+◌, ℕ, length}
use Rattle.std.proofs.Common.{arith, subst}
use Rattle.std.proofs.lemmas.Grind.{common_steps}
use Rattle.merge_sub.proofs.Uploading.{none-left, none_sent}
use Rattle.merge_sub.proofs.subscriber.Subscriber.draft_upload.Goals as goal
use Rattle.merge_sub.specs.Sent.{AreChanged}

pub returns-then-is_empty-clause-made : goal.returns-then-is_empty-clause-made
returns-then-is_empty-clause-made c =
    let none : length c.in_ok-unsent.unsent.items ≡ 0 = grind (arith, common_steps, c.in_ok-unsent.unsent.ok.0, c.is_empty.ensures, c.if-is_empty.true) in
    none_sent _ _ c.self.view_is c.args.now c.in_ok-check_sending.ensures.ok c.in_ok-unsent.unsent.items
    (subst (λ (closed : ℕ). AreChanged c.self.inside.rows.rows c.self.inside.state.received (closed + 1) c.in_ok-unsent.unsent.items) c.last_closed-end.ensures c.in_ok-unsent.ensures) (none-left c.in_ok-unsent.unsent.items none)
