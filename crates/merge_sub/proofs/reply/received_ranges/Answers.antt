use Rattle.std.specs.Prelude.{None, Some, pos}
use Rattle.std.proofs.Common.{arith, sym, ◌∙◌}
use Rattle.std.proofs.lemmas.List.{append-nil}
use Rattle.merge_sub.specs.Taking.{granted}
use Rattle.merge_sub.proofs.Steps.{given-more}
use Rattle.merge_sub.proofs.reply.received_ranges.Goals as goal
use Rattle.merge_sub.proofs.reply.received_ranges.Goals.{in-Some+in_ok-push, in_default}

pub loop-grant-preserved : goal.loop-grant-preserved
loop-grant-preserved c = elim c.match-granted.branch [
  | in-Some+in_ok-push w ↦
      given-more (granted c.args.held.now.rows) c.args.grants.now c.loop-grant.grant-index (record { article = 0; number = 0; begin = pos 0; end = pos 0 })
      (Some w.in-Some.edit) c.loop-grant.edits _ c.match-granted.edits (omega arith) (sym w.in-Some.is ∙ c.granted.ensures) c.loop-grant.invariant (w.edits-is ∙ w.in_ok-push.ensures.ok)
  | in_default w ↦
      given-more (granted c.args.held.now.rows) c.args.grants.now c.loop-grant.grant-index (record { article = 0; number = 0; begin = pos 0; end = pos 0 })
      None c.loop-grant.edits _ c.match-granted.edits (omega arith) (sym w.in_default.is ∙ c.granted.ensures) c.loop-grant.invariant (w.edits-is ∙ sym (append-nil c.loop-grant.edits))
]
