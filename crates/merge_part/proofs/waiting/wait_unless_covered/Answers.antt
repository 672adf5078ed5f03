use Rattle.std.proofs.Common.{◌≡◌, ◌++◌, inl, inr, subst}
use Rattle.merge_part.specs.declared.link.Link.{Link}
use Rattle.merge_part.specs.Covering.{IsCovered}
use Rattle.merge_part.specs.Draft.{rows_in, marks_in}
use Rattle.merge_part.proofs.Reasons.{link_at, same_link}
use Rattle.merge_part.proofs.waiting.wait_unless_covered.Goals as goal

pub returns-then-branch-clause-ok : goal.returns-then-branch-clause-ok
returns-then-branch-clause-ok c = λ link at.
    inr (subst (λ (l : Link). IsCovered (rows_in c.args.others.now.kept.now.held.rows.rows c.args.others.now.rows.now) (marks_in c.args.others.now.kept.now.held.marks.rows c.args.others.now.marks.now.rows) c.args.others.now.key c.args.others.now.sites l c.args.value.now)
    (same_link c.args.children.now.links.now c.args.number _ link (link_at c.args.children.now.links.now c.args.number c.requires.number) at)
    (c.in_ok-are_enough.ensures c.if-branch.true))

pub returns-clause-ok : goal.returns-clause-ok
returns-clause-ok c = λ link at. inl (c.in_ok-reach.ensures.ok link at)
