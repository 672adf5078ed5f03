use Rattle.std.proofs.Common.{◌≡◌, ◌++◌, inr, subst, get_or}
use Rattle.std.specs.Prelude.{option_copied}
use Rattle.std.specs.Map.{keys_of}
use Rattle.merge_part.specs.declared.link.Link.{Link}
use Rattle.merge_part.specs.Draft.{rows_in, marks_in}
use Rattle.merge_part.specs.Rule.{IsAt, parent_value}
use Rattle.merge_part.specs.Waiting.{ReachedAt}
use Rattle.merge_part.proofs.Reached.{spared_kept}
use Rattle.merge_part.proofs.Reasons.{link_at, same_link}
use Rattle.merge_part.proofs.waiting.wait_by_link.Goals as goal

pub returns-clause-ok : goal.returns-clause-ok
returns-clause-ok c = λ link at.
    let one : Link = get_or c.args.children.now.links.now c.args.number (record { child = 0; column = 0; parent = 0; parent_column = 0 }) in
    let here : IsAt c.args.children.now.links.now c.args.number one = link_at c.args.children.now.links.now c.args.number c.requires.number in
    subst (λ (l : Link). ReachedAt (rows_in c.args.others.now.kept.now.held.rows.rows c.args.others.now.rows.now) (marks_in c.args.others.now.kept.now.held.marks.rows c.args.others.now.marks.now.rows) c.args.others.now.key c.args.others.now.sites (c.args.children.now.held.now.set ++ c.args.children.now.come.now.set) c.args.number l (option_copied c.args.old) (option_copied c.args.new) (keys_of c.wait_for_children-2.new.waiting.rows.rows))
    (same_link c.args.children.now.links.now c.args.number one link here at)
    (inr (
      spared_kept (rows_in c.args.others.now.kept.now.held.rows.rows c.args.others.now.rows.now) (marks_in c.args.others.now.kept.now.held.marks.rows c.args.others.now.marks.now.rows) c.args.others.now.key c.args.others.now.sites (c.args.children.now.held.now.set ++ c.args.children.now.come.now.set) c.args.number one (parent_value one (option_copied c.args.old)) (keys_of c.wait_for_children.new.waiting.rows.rows) (keys_of c.wait_for_children-2.new.waiting.rows.rows) c.wait_for_children-2.ensures.kept
          (rw c.parent_value-before.ensures at (c.in_ok-wait_for_children.ensures.ok one here)),
      rw c.parent_value-after.ensures at (c.in_ok-wait_for_children-2.ensures.ok one here),
    ))
