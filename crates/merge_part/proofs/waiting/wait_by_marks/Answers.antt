use Rattle.std.proofs.Common.{◌≡◌, ◌++◌, subst}
use Rattle.std.specs.Prelude.{option_copied}
use Rattle.merge_part.specs.declared.link.Link.{Link}
use Rattle.merge_part.specs.Rule.{parent_value}
use Rattle.std.specs.Map.{keys_of}
use Rattle.merge_part.specs.Draft.{rows_in, marks_in}
use Rattle.merge_part.specs.Waiting.{AreSpared}
use Rattle.merge_part.proofs.Reached.{kept_twice}
use Rattle.merge_part.proofs.Reasons.{link_at, same_link}
use Rattle.merge_part.proofs.Values.{marks_next}
use Rattle.merge_part.proofs.waiting.wait_by_marks.Goals as goal
use Rattle.merge_part.proofs.waiting.wait_by_marks.Goals.{then-link-others+in_ok-wait_for_children, else-link-others}

pub loop-number-preserved : goal.loop-number-preserved
loop-number-preserved c =
    elim c.if-link-others.branch [
      | then-link-others+in_ok-wait_for_children w ↦
          rw w.waiting-is record {
            values = w.in_ok-wait_for_children.ensures.reached;
            kept = kept_twice _ _ _ c.loop-number.invariant.kept w.wait_for_children.ensures.kept;
            reached = marks_next c.args.children.now.links.now (rows_in c.args.others.now.kept.now.held.rows.rows c.args.others.now.rows.now) (marks_in c.args.others.now.kept.now.held.marks.rows c.args.others.now.marks.now.rows) c.args.others.now.key c.args.others.now.sites _ c.loop-number.number (option_copied c.args.content) (keys_of c.loop-number.waiting.rows.rows) _ w.wait_for_children.ensures.kept
                (λ link at parent.
                subst (λ (l : Link). AreSpared (rows_in c.args.others.now.kept.now.held.rows.rows c.args.others.now.rows.now) (marks_in c.args.others.now.kept.now.held.marks.rows c.args.others.now.marks.now.rows) c.args.others.now.key c.args.others.now.sites (c.args.children.now.held.now.set ++ c.args.children.now.come.now.set) c.loop-number.number link (parent_value l (option_copied c.args.content)) (keys_of w.wait_for_children.new.waiting.rows.rows))
                (same_link c.args.children.now.links.now c.loop-number.number _ link (link_at c.args.children.now.links.now c.loop-number.number c.loop-number-test.true) at)
                (rw w.parent_value-value.ensures at (w.in_ok-wait_for_children.ensures.ok link at)))
                c.loop-number.invariant.reached;
          }
      | else-link-others w ↦
          rw w.waiting-is record {
            values = c.loop-number.invariant.values;
            kept = c.loop-number.invariant.kept;
            reached = marks_next c.args.children.now.links.now (rows_in c.args.others.now.kept.now.held.rows.rows c.args.others.now.rows.now) (marks_in c.args.others.now.kept.now.held.marks.rows c.args.others.now.marks.now.rows) c.args.others.now.key c.args.others.now.sites _ c.loop-number.number (option_copied c.args.content) (keys_of c.loop-number.waiting.rows.rows) (keys_of c.loop-number.waiting.rows.rows) (λ key was. was)
                (λ link at parent. absurd (w.if-link-others.false (subst (λ (l : Link). l.parent ≡ c.args.others.now.key.article) (same_link c.args.children.now.links.now c.loop-number.number link _ at (link_at c.args.children.now.links.now c.loop-number.number c.loop-number-test.true)) parent)))
                c.loop-number.invariant.reached;
          }
    ]
