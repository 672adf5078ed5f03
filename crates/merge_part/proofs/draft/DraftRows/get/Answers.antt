use Rattle.std.proofs.Common.{sym, ap, ◌∙◌}
use Rattle.merge_table.specs.declared.edit.Edit.TheVariants.{Take}
use Rattle.merge_part.specs.Draft.{rows_in}
use Rattle.merge_part.proofs.draft.DraftRows.get.Goals as goal

pub row_at-requires : goal.row_at-requires
row_at-requires c = rw c.as_slice-edits.ensures.value (c.self.invariant.within c.args.key.now c.in-Some.place.now (sym c.in-Some.ensures.row))

pub returns-in-Some : goal.returns-in-Some
returns-in-Some c =
    c.row_at.ensures (Take c.args.key.now)
    ∙ (rw c.as_slice-edits.ensures.value (sym (c.self.invariant.changed c.args.held.now.rows c.is_ordered.ensures.rows c.args.key.now c.in-Some.place.now (sym c.in-Some.ensures.row))))
    ∙ ap (λ edits. rows_in c.args.held.now.rows edits c.args.key.now) c.self.view_is
