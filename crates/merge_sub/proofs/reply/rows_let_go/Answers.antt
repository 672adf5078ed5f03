use Rattle.std.specs.Prelude.{None, Some}
use Rattle.std.proofs.Common.{arith, sym, ◌∙◌}
use Rattle.std.proofs.lemmas.List.{append-nil}
use Rattle.merge_sub.specs.Taking.{let_go}
use Rattle.merge_sub.proofs.Steps.{given-more}
use Rattle.merge_sub.proofs.reply.rows_let_go.Goals as goal
use Rattle.merge_sub.proofs.reply.rows_let_go.Goals.{in-Some+in_ok-push, in_default}

pub loop-key-preserved : goal.loop-key-preserved
loop-key-preserved c = elim c.match-branch-2.branch [
  | in-Some+in_ok-push w ↦
      given-more (let_go c.args.rows.now.rows c.args.received) c.args.keys.now c.loop-key.key-index (record { article = 0; row = record { 0 = 0 } })
      (Some w.in-Some.edit) c.loop-key.edits _ c.match-branch-2.edits (omega arith) (sym w.in-Some.is ∙ c.in_ok-edit.ensures) c.loop-key.invariant (w.edits-is ∙ w.in_ok-push.ensures.ok)
  | in_default w ↦
      given-more (let_go c.args.rows.now.rows c.args.received) c.args.keys.now c.loop-key.key-index (record { article = 0; row = record { 0 = 0 } })
      None c.loop-key.edits _ c.match-branch-2.edits (omega arith) (sym w.in_default.is ∙ c.in_ok-edit.ensures) c.loop-key.invariant (w.edits-is ∙ sym (append-nil c.loop-key.edits))
]
