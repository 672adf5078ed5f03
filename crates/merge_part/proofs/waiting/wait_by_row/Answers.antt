use Rattle.std.proofs.Common.{◌++◌}
use Rattle.std.specs.Prelude.{option_copied}
use Rattle.merge_part.specs.Draft.{rows_in, marks_in}
use Rattle.merge_part.proofs.Reasons.{link_at}
use Rattle.merge_part.proofs.Reached.{reached_next, not_reached, kept_twice}
use Rattle.merge_part.proofs.waiting.wait_by_row.Goals as goal
use Rattle.merge_part.proofs.waiting.wait_by_row.Goals.{then-link-others+in_ok-wait_by_link, else-link-others}

pub loop-number-preserved : goal.loop-number-preserved
loop-number-preserved c =
    elim c.if-link-others.branch [
      | then-link-others+in_ok-wait_by_link w ↦
          rw w.waiting-is record {
            values = w.in_ok-wait_by_link.ensures.reached;
            kept = kept_twice _ _ _ c.loop-number.invariant.kept w.in_ok-wait_by_link.ensures.kept;
            reached = reached_next c.args.children.now.links.now (rows_in c.args.others.now.kept.now.held.rows.rows c.args.others.now.rows.now) (marks_in c.args.others.now.kept.now.held.marks.rows c.args.others.now.marks.now.rows) c.args.others.now.key c.args.others.now.sites (c.args.children.now.held.now.set ++ c.args.children.now.come.now.set) (option_copied c.args.old) (option_copied c.args.new) c.loop-number.number _ _ w.in_ok-wait_by_link.ensures.kept
                (λ link at parent. w.in_ok-wait_by_link.ensures.ok link at)
                c.loop-number.invariant.reached;
          }
      | else-link-others w ↦
          rw w.waiting-is record {
            values = c.loop-number.invariant.values;
            kept = c.loop-number.invariant.kept;
            reached = reached_next c.args.children.now.links.now (rows_in c.args.others.now.kept.now.held.rows.rows c.args.others.now.rows.now) (marks_in c.args.others.now.kept.now.held.marks.rows c.args.others.now.marks.now.rows) c.args.others.now.key c.args.others.now.sites (c.args.children.now.held.now.set ++ c.args.children.now.come.now.set) (option_copied c.args.old) (option_copied c.args.new) c.loop-number.number _ _ (λ key was. was)
                (not_reached c.args.children.now.links.now (rows_in c.args.others.now.kept.now.held.rows.rows c.args.others.now.rows.now) (marks_in c.args.others.now.kept.now.held.marks.rows c.args.others.now.marks.now.rows) c.args.others.now.key c.args.others.now.sites (c.args.children.now.held.now.set ++ c.args.children.now.come.now.set) (option_copied c.args.old) (option_copied c.args.new) c.loop-number.number _ _ (link_at c.args.children.now.links.now c.loop-number.number c.loop-number-test.true) w.if-link-others.false)
                c.loop-number.invariant.reached;
          }
    ]
