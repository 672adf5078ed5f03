use Rattle.std.proofs.Common.{◌≡◌, ◌≤◌, ◌+◌, ◌*◌, length}
use Rattle.merge_types.specs.RowKeys.{key_cmp}
use Rattle.merge_join.specs.Entries.{entry_cmp}
use Rattle.merge_part.proofs.Rooms.{room_after}
use Rattle.merge_part.proofs.membership.planned.Goals as goal

pub returns-clause-rows_room : goal.returns-clause-rows_room
returns-clause-rows_room c =
    rw c.prepare.ensures.rows
    (rw c.deref.ensures.value at (room_after key_cmp c.sweep_if_due.new.kept.held.rows.slots c.prepare.new.self.slots c.deref.result.now (2 * length c.sweep_if_due.new.kept.held.rows.rows) c.in_ok-prepare.ensures.ok c.sweep_if_due.ensures.rows_room))

pub returns-clause-marks_room : goal.returns-clause-marks_room
returns-clause-marks_room c =
    rw c.prepare-2.ensures.rows
    (rw c.deref-2.ensures.value at (room_after key_cmp c.sweep_if_due.new.kept.held.marks.slots c.prepare-2.new.self.slots c.deref-2.result.now (2 * length c.sweep_if_due.new.kept.held.marks.rows) c.in_ok-prepare-2.ensures.ok c.sweep_if_due.ensures.marks_room))

pub returns-clause-children_room : goal.returns-clause-children_room
returns-clause-children_room c =
    rw c.prepare-3.ensures.same
    (rw c.deref-3.ensures.value at (room_after entry_cmp c.sweep_if_due.new.kept.index.children.room c.prepare-3.new.self.room c.deref-3.result.now (2 * length c.sweep_if_due.new.kept.index.children.set) c.in_ok-prepare-3.ensures.slots c.sweep_if_due.ensures.children_room))

pub returns-clause-parents_room : goal.returns-clause-parents_room
returns-clause-parents_room c =
    rw c.prepare-4.ensures.same
    (rw c.deref-4.ensures.value at (room_after entry_cmp c.sweep_if_due.new.kept.index.parents.room c.prepare-4.new.self.room c.deref-4.result.now (2 * length c.sweep_if_due.new.kept.index.parents.set) c.in_ok-prepare-4.ensures.slots c.sweep_if_due.ensures.parents_room))
