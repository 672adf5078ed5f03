use Rattle.std.proofs.Common.{◌≡◌, ◌∷◌, [], length, ◌∙◌, refl, rules, add-one}
use Rattle.merge_units.specs.Changes.{new_cell}
use Rattle.merge_units.proofs.Places.{written_more, unwritten, column_below}
use Rattle.merge_units.proofs.local_change.columns_after.Goals as goal

pub loop-edit-init : goal.loop-edit-init
loop-edit-init c =
    let copied : c.in_ok-after.after.items ≡ c.args.cells.now = search rules in
    copied ∙ unwritten (new_cell c.args.dot) (λ x. refl) c.args.cells.now

-- the next edit writes the cell of its column
pub loop-edit-preserved : goal.loop-edit-preserved
loop-edit-preserved c =
    let edit = c.edit-item.result in
    let in_range = column_below c.args.edits.now (length c.args.cells.now) c.requires.1 c.loop-edit.edit-index edit c.loop-edit-test.true c.edit-item.is in
    let copied : c.in_ok-clone.field-0 ≡ edit.value = search rules in
    rw (c.in_ok-after-2.ensures, copied, c.loop-edit.invariant, add-one)
    (written_more (new_cell c.args.dot) c.args.cells.now c.args.edits.now c.requires.0 c.loop-edit.edit-index edit c.loop-edit-test.true c.edit-item.is in_range (record { top = c.args.dot; values = edit.value ∷ [] }) (λ x. refl))
