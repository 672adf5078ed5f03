use Rattle.std.proofs.Common.{refl, sym, ap, ◌∙◌}
use Rattle.merge_table.specs.declared.edit.Edit.TheVariants.{Take}
use Rattle.merge_part.proofs.Entries.{left, left_null, null_is, null_is_not}
use Rattle.merge_part.proofs.index.leave.Goals as goal

pub returns : goal.returns
returns c =
    left _ _ c.args.number c.args.value.now c.args.row (null_is_not c.args.value.now (sym c.is_null.ensures ∙ c.if-is_null.false)) refl
    (rw c.in_ok-entry_for.ensures at c.in_ok-push.ensures.items)

pub returns-then-is_null : goal.returns-then-is_null
returns-then-is_null c = left_null c.args.draft.now c.args.number c.args.value.now c.args.row (null_is c.args.value.now (sym c.is_null.ensures ∙ c.if-is_null.true))
