use Rattle.std.proofs.Common.{rules}
use Rattle.std.proofs.lemmas.List.{append-nil}
use Rattle.merge_table.specs.Edits.{IsReady}
use Rattle.merge_pub.proofs.DraftFits.{follows-after}
use Rattle.merge_pub.proofs.publisher.Publisher.draft_forgetting.Goals as goal

pub returns-clause-ready : goal.returns-clause-ready
unfolding IsReady
returns-clause-ready c = record {
  rows = search rules;
  mappings = search rules;
  sites = search rules;
  held = search rules;
  gens = search rules;
  conflicts = search rules;
  grants = search rules;
  plan = search rules;
  changed = search rules;
  moved = search rules;
  live = search rules;
  indexed = search rules;
  move_indexed = rw (c.forget_draft.ensures.changes, c.forget_draft.ensures.index)
      (follows-after c.self.inside.mappings.rows c.make_room.new.mappings.rows c.self.inside.moved.rows c.make_room.new.moved.rows c.args.edits.mappings _ c.in_ok-make_room.ensures.same_mappings c.in_ok-make_room.ensures.same_moved
      (rw c.as_slice.ensures at c.in_ok-moved.ensures) c.requires.apart c.is_ordered.ensures.rows c.is_ordered-2.ensures.rows c.self.invariant.moved);
  keeps = rw c.forget_draft.ensures.changes (let keeps = rw (← c.self.view_is) at c.requires.keeps in record {
    rows = rw c.in_ok-make_room.ensures.same_rows keeps.rows;
    rising = rw (append-nil c.self.inside.conflicts.rows) keeps.rising;
    conflicts = rw (append-nil c.self.inside.conflicts.rows) keeps.conflicts;
    held = keeps.held;
    heard = keeps.heard;
  });
}
