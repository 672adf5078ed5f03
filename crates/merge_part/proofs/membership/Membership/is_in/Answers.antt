use Rattle.std.proofs.Common.{sym, ap, ◌∙◌}
use Rattle.merge_part.specs.Draft.{marks_of}
use Rattle.merge_part.specs.Sites.{has_site}
use Rattle.merge_part.specs.Subscribers.{IsPlaceOf}
use Rattle.merge_part.proofs.SitePartitions.{in_by_marks, place_found}
use Rattle.merge_part.proofs.membership.Membership.is_in.Goals as goal

pub returns-in-Some : goal.returns-in-Some
returns-in-Some c =
    let place : IsPlaceOf c.self.inside.publication.subscriptions c.args.site c.in-Some.place = rw c.as_slice.ensures at c.in-Some.ensures.some in
    let at = place_found c.self.inside.publication c.args.site c.in-Some.place place in
    rw (← c.self.view_is)
    (c.contains.ensures
    ∙ ap (λ sites. has_site sites c.in-Some.place) c.marks_held.ensures
    ∙ ap (has_site (marks_of c.self.inside.kept.held.marks.rows (record { article = c.args.article; row = c.args.row }))) (sym at.1)
    ∙ sym (in_by_marks c.self.inside.publication c.self.inside.kept.rules c.self.invariant.rules c.self.inside.kept.held.rows.rows c.is_ordered.ensures.rows (marks_of c.self.inside.kept.held.marks.rows)
    c.self.invariant.kept.met c.self.invariant.kept.filtered c.args.site at.0 (record { article = c.args.article; row = c.args.row })))
