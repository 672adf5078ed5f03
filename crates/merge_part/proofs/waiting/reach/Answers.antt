use Rattle.std.proofs.Common.{◌≡◌, true, sym, ap, ◌∙◌, subst}
use Rattle.std.specs.Prelude.{is_some}
use Rattle.std.specs.Map.{keys_of}
use Rattle.merge_part.specs.declared.link.Link.{Link}
use Rattle.merge_part.specs.Rule.{IsAt}
use Rattle.merge_part.specs.Waiting.{waits, child_of}
use Rattle.merge_part.proofs.Found.{children_wait}
use Rattle.merge_part.proofs.Reasons.{link_at, same_link}
use Rattle.merge_part.proofs.Values.{found_reached, reached_more, reached_on}
use Rattle.merge_part.proofs.waiting.reach.Goals as goal

pub returns-in-Some-clause-ok : goal.returns-in-Some-clause-ok
returns-in-Some-clause-ok c = λ link at. found_reached _ _ _ c.args.number c.args.value.now _ c.requires.reached (ap is_some (sym (rw c.in_ok-first.ensures at c.in-Some.ensures.row))) link at

pub returns-clause-ok : goal.returns-clause-ok
returns-clause-ok c = λ link at.
    let same = same_link c.args.children.now.links.now c.args.number _ link (link_at c.args.children.now.links.now c.args.number c.requires.number) at in
    children_wait c.args.children.now.held.now.set c.args.children.now.come.now.set c.args.number link c.args.value.now (keys_of c.wait_for.new.waiting.rows) (keys_of c.wait_for-2.new.waiting.rows) c.wait_for-2.ensures.kept
    (λ row h. subst (λ (l : Link). waits (keys_of c.wait_for.new.waiting.rows) (child_of l row) ≡ true) same (c.in_ok-wait_for.ensures.ok row (rw c.in_ok-held.ensures h)))
    (λ row h. subst (λ (l : Link). waits (keys_of c.wait_for-2.new.waiting.rows) (child_of l row) ≡ true) same (c.in_ok-wait_for-2.ensures.ok row (rw c.in_ok-come.ensures h)))

pub returns-clause-reached : goal.returns-clause-reached
returns-clause-reached c =
    rw (c.in_ok-insert.ensures.rows, c.in_ok-first.ensures)
    (reached_more c.args.children.now.links.now _ c.args.waiting.now.values.rows c.args.number c.args.value.now (keys_of c.wait_for-2.new.waiting.rows)
    (reached_on _ _ _ (keys_of c.args.waiting.now.rows.rows) (keys_of c.wait_for-2.new.waiting.rows) (λ key h. c.wait_for-2.ensures.kept key (c.wait_for.ensures.kept key h)) c.requires.reached)
    (returns-clause-ok c))
