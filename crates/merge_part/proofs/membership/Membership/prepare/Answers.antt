use Rattle.std.proofs.Common.{◌≡◌, [], refl, sym, ◌∙◌}
use Rattle.std.specs.Map.{keys_of}
use Rattle.merge_types.specs.RowKeys.{key_cmp}
use Rattle.merge_join.specs.Entries.{entry_cmp}
use Rattle.merge_part.specs.declared.content.Content.{Content}
use Rattle.merge_part.specs.declared.sites.Sites.{Sites}
use Rattle.merge_part.proofs.Prepared.{prepared_kept, prepared_moves}
use Rattle.merge_part.proofs.Rooms.{room_still}
use Rattle.merge_part.proofs.Unchanged.{no_moves, none_ready, none_of}
use Rattle.merge_part.proofs.membership.Membership.prepare.Goals as goal

pub returns-then-is_empty-clause-moves : goal.returns-then-is_empty-clause-moves
returns-then-is_empty-clause-moves g c = rw (none_of c.args.changes.now (sym c.is_empty.ensures ∙ c.if-is_empty.true), c.empty.ensures) (no_moves _ _)

pub returns-then-is_empty-clause-plan : goal.returns-then-is_empty-clause-plan
returns-then-is_empty-clause-plan g c = rw (none_of c.args.changes.now (sym c.is_empty.ensures ∙ c.if-is_empty.true), c.none.ensures.rows, c.sweep_if_due.ensures.rows, ← c.self.view_is) refl

pub returns-then-is_empty-clause-ready : goal.returns-then-is_empty-clause-ready
returns-then-is_empty-clause-ready g c = record {
  rows = rw c.none.ensures.rows (none_ready Content key_cmp _);
  marks = rw c.none.ensures.marks (none_ready Sites key_cmp _);
  children = rw c.none.ensures.children (none_ready (Unit {0}) entry_cmp _);
  parents = rw c.none.ensures.parents (none_ready (Unit {0}) entry_cmp _);
  kept =
      rw (c.none.ensures.rows, c.none.ensures.marks, c.none.ensures.children, c.none.ensures.parents, c.sweep_if_due.ensures.rules, c.sweep_if_due.ensures.rows, c.sweep_if_due.ensures.marks, c.sweep_if_due.ensures.children, c.sweep_if_due.ensures.parents)
      c.self.invariant.kept;
}

pub returns-then-is_empty-clause-compact : goal.returns-then-is_empty-clause-compact
returns-then-is_empty-clause-compact g c = record {
  rows = room_still _ _ _ c.sweep_if_due.ensures.rows_room;
  marks = room_still _ _ _ c.sweep_if_due.ensures.marks_room;
  children = room_still _ _ _ c.sweep_if_due.ensures.children_room;
  parents = room_still _ _ _ c.sweep_if_due.ensures.parents_room;
}

pub returns-clause-compact : goal.returns-clause-compact
returns-clause-compact g c = record {
  rows = c.in_ok-plan.ensures.rows_room;
  marks = c.in_ok-plan.ensures.marks_room;
  children = c.in_ok-plan.ensures.children_room;
  parents = c.in_ok-plan.ensures.parents_room;
}

pub returns-clause-moves : goal.returns-clause-moves
returns-clause-moves g c =
    rw (← c.self.view_is, c.new.ensures)
    (prepared_moves c.self.inside.publication c.self.inside.kept.rules c.self.invariant.rules c.self.inside.kept.held.rows.rows c.self.inside.kept.held.marks.rows c.in_ok-draft.draft.marks.rows
    c.in_ok-draft.ensures.ordered c.in_ok-draft.ensures.marked c.in_ok-draft.ensures.drafted
    c.self.inside.kept.index c.in_ok-taken.taken.index c.args.changes.now c.in_ok-taken.taken.rows (keys_of c.in_ok-taken.taken.waiting.rows.rows) c.in_ok-taken.ensures.taken c.in_ok-draft.ensures.met
    c.self.inside.kept.index.children.set c.self.inside.kept.index.parents.set c.self.invariant.kept c.in_ok-moves.moves.items c.in_ok-moves.ensures.ascending (rw c.as_slice-subscriptions.ensures at c.in_ok-moves.ensures.each))

pub returns-clause-ready : goal.returns-clause-ready
returns-clause-ready g c = record {
  rows = c.in_ok-plan.ensures.rows_ready;
  marks = c.in_ok-plan.ensures.marks_ready;
  children = c.in_ok-plan.ensures.children_ready;
  parents = c.in_ok-plan.ensures.parents_ready;
  kept =
      rw (c.in_ok-plan.ensures.rules, c.in_ok-plan.ensures.rows, c.in_ok-plan.ensures.marks, c.in_ok-plan.ensures.children, c.in_ok-plan.ensures.parents, c.in_ok-plan.ensures.edits, c.in_ok-plan.ensures.marked, c.in_ok-plan.ensures.as_children, c.in_ok-plan.ensures.as_parents, c.in_ok-draft.ensures.rows, c.in_ok-draft.ensures.index)
      (prepared_kept c.self.inside.publication c.self.inside.kept.rules c.self.invariant.rules c.self.inside.kept.held.rows.rows c.self.inside.kept.held.marks.rows c.in_ok-draft.draft.marks.rows
      c.in_ok-draft.ensures.ordered c.in_ok-draft.ensures.marked c.in_ok-draft.ensures.drafted
      c.self.inside.kept.index c.in_ok-taken.taken.index c.args.changes.now c.in_ok-taken.taken.rows (keys_of c.in_ok-taken.taken.waiting.rows.rows) c.in_ok-taken.ensures.taken c.in_ok-draft.ensures.met);
}
