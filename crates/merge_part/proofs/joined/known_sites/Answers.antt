use Rattle.std.proofs.Common.{◌≡◌, sym, ap, ◌∙◌, subst}
use Rattle.merge_part.specs.declared.link.Link.{Link}
use Rattle.merge_part.specs.Draft.{rows_in, marks_in}
use Rattle.merge_part.specs.Index.{parents_found}
use Rattle.merge_part.specs.Settling.{AreGiven}
use Rattle.merge_part.proofs.Reasons.{link_at, same_link}
use Rattle.merge_part.proofs.Values.{known_more}
use Rattle.merge_part.proofs.joined.known_sites.Goals as goal

pub returns-in-Some-clause-given : goal.returns-in-Some-clause-given
returns-in-Some-clause-given c = λ article known link at child. known c.args.number c.args.value.now c.in-Some.sites.now (sym (rw c.in_ok-first.ensures at c.in-Some.ensures.row)) link at child

pub returns-clause-known : goal.returns-clause-known
returns-clause-known c = λ article known.
    rw (c.in_ok-insert.ensures.rows, c.in_ok-first.ensures)
    (known_more _ _ _ _ article c.args.memo.now.rows c.args.number c.args.value.now c.in_ok-sites.sites
    (λ link at child.
    subst (λ (l : Link). AreGiven (parents_found c.args.kept.now.index c.args.draft.now.index) (rows_in c.args.kept.now.held.rows.rows c.args.draft.now.rows) (marks_in c.args.kept.now.held.marks.rows c.args.draft.now.marks.rows) c.args.number l c.args.value.now c.in_ok-sites.sites)
    (same_link c.args.kept.now.rules.links c.args.number _ link (link_at c.args.kept.now.rules.links c.args.number c.requires.number) at) (rw c.as_slice.ensures at c.in_ok-sites.ensures)) known)

pub returns-clause-given : goal.returns-clause-given
returns-clause-given c = λ article known link at child.
    subst (λ (l : Link). AreGiven (parents_found c.args.kept.now.index c.args.draft.now.index) (rows_in c.args.kept.now.held.rows.rows c.args.draft.now.rows) (marks_in c.args.kept.now.held.marks.rows c.args.draft.now.marks.rows) c.args.number l c.args.value.now c.in_ok-sites.sites)
    (same_link c.args.kept.now.rules.links c.args.number _ link (link_at c.args.kept.now.rules.links c.args.number c.requires.number) at) (rw c.as_slice.ensures at c.in_ok-sites.ensures)

pub sites_anew-requires-clause-link : goal.sites_anew-requires-clause-link
sites_anew-requires-clause-link c = rw c.as_slice.ensures (link_at c.args.kept.now.rules.links c.args.number c.requires.number)
