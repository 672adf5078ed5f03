use Rattle.std.proofs.Common.{◌≡◌, unwrap_or, length, ◌∙◌, refl, rules, add-one}
use Rattle.merge_units.proofs.Places.{written_more, unwritten, column_below}
use Rattle.merge_units.proofs.local_change.values_after.Goals as goal

pub loop-edit-init : goal.loop-edit-init
loop-edit-init c =
    let copied : c.in_ok-after.after.items ≡ c.args.values.now = search rules in
    copied ∙ unwritten unwrap_or (λ x. refl) c.args.values.now

-- the next edit writes its value
pub loop-edit-preserved : goal.loop-edit-preserved
loop-edit-preserved c =
    let edit = c.edit-item.result in
    let in_range = column_below c.args.edits.now (length c.args.values.now) c.requires.1 c.loop-edit.edit-index edit c.loop-edit-test.true c.edit-item.is in
    let copied : c.in_ok-after-2.field-0 ≡ edit.value = search rules in
    rw (copied, c.loop-edit.invariant, add-one)
    (written_more unwrap_or c.args.values.now c.args.edits.now c.requires.0 c.loop-edit.edit-index edit c.loop-edit-test.true c.edit-item.is in_range edit.value (λ x. refl))
