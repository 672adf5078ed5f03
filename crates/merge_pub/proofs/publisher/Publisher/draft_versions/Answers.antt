use Rattle.std.proofs.Common.{rules}
use Rattle.merge_pub.proofs.Making.{fits-held, indexed-from, kept-after, made-held, moved-from}
use Rattle.merge_pub.proofs.publisher.Publisher.draft_versions.Goals as goal

pub returns-clause-made : goal.returns-clause-made
returns-clause-made g c = rw c.changes_of.ensures (made-held _ _ _ c.self.view_is c.args.besides _ c.in_ok-worked.ensures.made)

pub returns-clause-ready : goal.returns-clause-ready
returns-clause-ready g c =
    let w = c.in_ok-worked.ensures in
    let m = c.make_room.ensures in
    let i = c.in_ok-changed.ensures in
    record {
      rows = search rules;
      mappings = search rules;
      sites = search rules;
      held = search rules;
      gens = rw c.changes_of.ensures w.prepared;
      conflicts = search rules;
      grants = search rules;
      plan = w.planned;
      changed = i.ready;
      moved = search rules;
      live = rw (c.changes_of.ensures, m.same_rows) w.follows;
      indexed = rw c.changes_of.ensures (indexed-from _ _ _ _ _ _ w.index c.self.invariant.indexed m.same_rows i.same i.plan);
      keeps = rw c.changes_of.ensures (kept-after _ _ _ c.self.view_is _ _ (search rules) c.args.besides _ w.kept c.requires.keeps c.requires.rows (search rules) (search rules) (search rules) (search rules) (search rules) (search rules));
      move_indexed = rw c.changes_of.ensures (moved-from _ _ _ _ _ w.moved c.is_ordered.ensures.rows c.self.invariant.moved m.same_mappings m.same_moved);
    }

pub draft_step-requires-clause-fits : goal.draft_step-requires-clause-fits
draft_step-requires-clause-fits g c = fits-held _ _ c.self.view_is _ _ c.requires.rows
