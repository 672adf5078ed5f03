use Rattle.std.proofs.Common.{ap, ◌∙◌}
use Rattle.std.proofs.lemmas.Result.{err_from_is_err_and}
use Rattle.merge_table.proofs.Edits.{preparing_next}
use Rattle.merge_table.proofs.table.Table.prepare.Goals as goal

pub loop-edit-preserved : goal.loop-edit-preserved
loop-edit-preserved g c =
    preparing_next g.K.Ord.cmp _ _ _ _ _ _ c.loop-edit-test.true c.edit-item.is c.loop-edit.invariant c.in_ok-make_room_for.ensures.rows c.in_ok-make_room_for.ensures.ok c.in_ok-make_room_for.ensures.room c.in_ok-make_room_for.ensures.kept

pub returns-in_err-make_room_for-clause-refused : goal.returns-in_err-make_room_for-clause-refused
returns-in_err-make_room_for-clause-refused g c =
    let p = err_from_is_err_and c.from_residual.result c.from_residual.ensures.1 in
    rw p.1 (c.loop-edit.edit-index, ap (λ t. t.slots) c.in_err-make_room_for.ensures.err ∙ c.loop-edit.invariant.front)
