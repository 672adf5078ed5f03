use Rattle.std.proofs.Common.{◌≡◌, true, false, sym, ap, ◌∙◌, subst}
use Rattle.std.proofs.lemmas.Result.{IfOk-weaker}
use Rattle.merge_types.specs.declared.values.Value.TheVariants.{Null}
use Rattle.merge_part.specs.declared.link.Link.{Link}
use Rattle.merge_part.specs.Draft.{rows_in, marks_in}
use Rattle.merge_part.specs.Index.{parents_found}
use Rattle.merge_part.specs.Rule.{value_at}
use Rattle.merge_part.specs.Settling.{AreGiven}
use Rattle.merge_part.proofs.Reasons.{both, joined_is, link_at, same_link}
use Rattle.merge_part.proofs.joined.sites_by_link.Goals as goal

pub returns-in-Some-clause-given : goal.returns-in-Some-clause-given
returns-in-Some-clause-given c =
    IfOk-weaker c.known_sites.result _ _
    (λ sites g article known link at child.
    let is = same_link c.args.kept.now.rules.links c.args.number _ link (link_at c.args.kept.now.rules.links c.args.number c.requires.number) at in
    let same : c.in-Some.value.now ≡ value_at c.args.content.now.values link.column
    = (rw (c.as_slice.ensures, c.as_slice-2.ensures) at c.in-Some.ensures) ∙ ap (λ (l : Link). value_at c.args.content.now.values l.column) is in
    subst (λ v. AreGiven (parents_found c.args.kept.now.index c.args.draft.now.index) (rows_in c.args.kept.now.held.rows.rows c.args.draft.now.rows) (marks_in c.args.kept.now.held.marks.rows c.args.draft.now.marks.rows) c.args.number link v sites)
    same (g article known link at child))
    c.known_sites.ensures.given

pub returns-in-None-clause-given : goal.returns-in-None-clause-given
returns-in-None-clause-given c = λ article known link at child.
    let is = same_link c.args.kept.now.rules.links c.args.number _ link (link_at c.args.kept.now.rules.links c.args.number c.requires.number) at in
    let null : Null ≡ value_at c.args.content.now.values link.column
    = (rw (c.as_slice.ensures, c.as_slice-2.ensures) at c.in-None.ensures) ∙ ap (λ (l : Link). value_at c.args.content.now.values l.column) is in
    record {
      given = λ place h. let bad : false ≡ true = sym (c.none.ensures.empty place) ∙ h in absurd cc;
      all = λ place row entry gives. absurd ((joined_is (value_at c.args.content.now.values link.column) link _ (both _ _ gives).0).3 (sym null));
    }
