use Rattle.std.proofs.Common.{refl, rules}
use Rattle.merge_pub.proofs.Costs.{local-cost}
use Rattle.merge_pub.proofs.LocalMade.{asked-here, counter-here, dot_after, err-by, fit-here, keeps-here, made-here, new-here, passed-here, refused-here, refuses-here}
use Rattle.merge_pub.proofs.publisher.Publisher.draft_local.Goals as goal

pub change_row-requires-clause-asked : goal.change_row-requires-clause-asked
change_row-requires-clause-asked g c =
    asked-here _ _ c.self.view_is c.self.invariant c.publication.result.now (dot_after c.self.inside.changes) c.args.change.now c.publication.ensures.publication c.requires.place c.requires.ascend

pub change_row-requires-clause-new : goal.change_row-requires-clause-new
change_row-requires-clause-new g c = new-here _ c.self.invariant (dot_after c.self.inside.changes) c.args.change.now refl

pub returns-in_err-versions-clause-refused : goal.returns-in_err-versions-clause-refused
returns-in_err-versions-clause-refused g c = λ refusal same.
    refused-here _ _ c.self.view_is c.publication.result.now c.args.now (dot_after c.self.inside.changes) c.args.change.now c.in_err-versions.field-0.0 refusal c.in_err-versions.ensures.refused (search rules)
    c.publication.ensures.publication refl c.last_closed.result (search rules) c.in_ok-counters_go_on.ensures.ok

pub returns-in_err-counters_go_on-clause-refuses : goal.returns-in_err-counters_go_on-clause-refuses
returns-in_err-counters_go_on-clause-refuses g c = λ refusal defined.
    err-by c.from_residual.result c.in_err-counters_go_on.field-0.0 refusal c.from_residual.ensures.1
    (counter-here _ _ c.self.view_is c.args.now c.args.change.now c.in_err-counters_go_on.field-0.0 c.last_closed.result (search rules) c.in_err-counters_go_on.ensures.err refusal defined)

pub returns-in_err-versions-clause-refuses : goal.returns-in_err-versions-clause-refuses
returns-in_err-versions-clause-refuses g c = λ refusal defined.
    err-by c.from_residual-in_err-versions.result c.in_err-versions.field-0.0 refusal c.from_residual-in_err-versions.ensures.1
    (refuses-here _ _ c.self.view_is c.publication.result.now c.args.now (dot_after c.self.inside.changes) c.args.change.now c.in_err-versions.field-0.0 c.in_err-versions.ensures.refused
    c.publication.ensures.publication refl c.last_closed.result (search rules) c.in_ok-counters_go_on.ensures.ok refusal defined)

pub returns-in_err-draft-clause-refuses : goal.returns-in_err-draft-clause-refuses
returns-in_err-draft-clause-refuses g c = λ refusal defined.
    absurd (passed-here _ _ c.self.view_is c.publication.result.now c.args.now (dot_after c.self.inside.changes) c.args.change.now _ c.in_ok-versions.ensures.allowed c.in_ok-versions.ensures.draws
    c.publication.ensures.publication refl c.last_closed.result (search rules) c.in_ok-counters_go_on.ensures.ok refusal defined)

pub returns-clause-refuses : goal.returns-clause-refuses
returns-clause-refuses g c = λ refusal defined.
    absurd (passed-here _ _ c.self.view_is c.publication.result.now c.args.now (dot_after c.self.inside.changes) c.args.change.now _ c.in_ok-versions.ensures.allowed c.in_ok-versions.ensures.draws
    c.publication.ensures.publication refl c.last_closed.result (search rules) c.in_ok-counters_go_on.ensures.ok refusal defined)

pub draft_versions-requires-clause-rows : goal.draft_versions-requires-clause-rows
draft_versions-requires-clause-rows g c =
    fit-here _ c.self.invariant c.publication.result.now c.self.inside.membership.publication (dot_after c.self.inside.changes) c.args.change.now c.in_ok-versions.drawn.value c.in_ok-versions.versions.items
    c.besides_of-besides.result.changes c.in_ok-versions.ensures.fit c.in_ok-versions.ensures.versions c.publication.ensures.publication refl refl (search rules)

pub draft_versions-requires-clause-keeps : goal.draft_versions-requires-clause-keeps
draft_versions-requires-clause-keeps g c =
    keeps-here _ c.self.invariant c.args.now c.in_ok-versions.drawn c.in_ok-versions.ensures.keeps _ _ refl (search rules) (search rules) (search rules) (search rules) (search rules) (search rules)

pub returns-clause-made : goal.returns-clause-made
returns-clause-made g c =
    made-here _ _ c.self.view_is c.publication.result.now _ c.args.now (dot_after c.self.inside.changes) c.args.change.now c.in_ok-versions.drawn c.in_ok-versions.versions.items _ _ _ _ c.key_of.result.row
    c.in_ok-versions.ensures.draws c.in_ok-versions.ensures.allowed c.in_ok-versions.ensures.versions c.in_ok-draft.ensures.made
    c.publication.ensures.publication (search rules) (search rules) (search rules) (search rules) refl c.last_closed.result (search rules) c.in_ok-counters_go_on.ensures.ok (search rules)

pub returns-clause-cost : goal.returns-clause-cost
returns-clause-cost g c =
    local-cost _ _ c.self.view_is c.publication.result.now (dot_after c.self.inside.changes) c.in_ok-versions.drawn.value c.args.change.now c.self.inside.rows.rows _ c.in_ok-versions.ensures.versions _ _ c.draft_versions.ensures.cost
