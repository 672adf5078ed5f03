use Rattle.std.proofs.Common.{◌≡◌, ◌<◌, subst, arith, length}
use Rattle.merge_part.specs.Index.{parents_found}
use Rattle.merge_part.specs.Draft.{rows_in, marks_in}
use Rattle.merge_part.proofs.Reasons.{Reaching, link_at, reaching_passed, reaching_added, reaching_all}
use Rattle.merge_part.proofs.joined.sites_of.Goals as goal
use Rattle.merge_part.proofs.joined.sites_of.Goals.{then-link-key+in_ok-sites, else-link-key}

pub loop-number-preserved : goal.loop-number-preserved
loop-number-preserved c =
    let less : c.loop-number.number < length c.args.kept.now.rules.links = rw c.as_slice-link-items.ensures at c.loop-number-test.true in
    elim c.if-link-key.branch [
      | then-link-key+in_ok-sites w ↦
          let is = w.in_ok-sites.ensures.given c.args.key.article c.loop-number.invariant.known _ (link_at c.args.kept.now.rules.links c.loop-number.number less) (rw c.as_slice-link-items.ensures at w.if-link-key.true) in
          rw (w.found-is, w.memo-is) record {
            reaching = reaching_added _ _ _ _ _ (parents_found c.args.kept.now.index c.args.draft.now.index) c.requires.parents c.loop-number.found w.in_ok-sites.sites w.union-found.result c.loop-number.number _
                (link_at c.args.kept.now.rules.links c.loop-number.number less) (rw c.as_slice-link-items.ensures at w.if-link-key.true) w.union-found.ensures is.given is.all c.loop-number.invariant.reaching;
            known = w.in_ok-sites.ensures.known c.args.key.article c.loop-number.invariant.known;
          }
      | else-link-key w ↦
          rw (w.found-is, w.memo-is) record {
            reaching = reaching_passed _ _ _ _ _ c.loop-number.found c.loop-number.number _ (link_at c.args.kept.now.rules.links c.loop-number.number less) (rw c.as_slice-link-items.ensures at w.if-link-key.false) c.loop-number.invariant.reaching;
            known = c.loop-number.invariant.known;
          }
    ]

pub returns-clause-reached : goal.returns-clause-reached
returns-clause-reached c =
    let last : c.loop-number.number ≡ length c.as_slice-link-items.result.now = omega arith in
    let at_end : c.loop-number.number ≡ length c.args.kept.now.rules.links = rw c.as_slice-link-items.ensures at last in
    reaching_all _ _ _ _ _ c.loop-number.found (subst (λ n. Reaching c.args.kept.now.rules.links (rows_in c.args.kept.now.held.rows.rows c.args.draft.now.rows) (marks_in c.args.kept.now.held.marks.rows c.args.draft.now.marks.rows) c.args.key c.args.content.now c.loop-number.found n) at_end c.loop-number.invariant.reaching)
