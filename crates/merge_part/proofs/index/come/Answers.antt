use Rattle.std.proofs.Common.{sym, ◌∙◌}
use Rattle.merge_part.proofs.Entries.{came, came_null, null_is, null_is_not}
use Rattle.merge_part.proofs.index.come.Goals as goal

pub returns : goal.returns
returns c =
    came _ _ c.args.number c.args.value.now c.args.row (null_is_not c.args.value.now (sym c.is_null.ensures ∙ c.if-is_null.false))
    (rw c.in_ok-entry_for.ensures at c.in_ok-insert.ensures.ok) (rw c.in_ok-entry_for-2.ensures at c.in_ok-push.ensures.items)

pub returns-then-is_null : goal.returns-then-is_null
returns-then-is_null c = came_null c.args.draft.now c.args.number c.args.value.now c.args.row (null_is c.args.value.now (sym c.is_null.ensures ∙ c.if-is_null.true))
