use Rattle.merge_pub.specs.Held.{publication_of, tables_of}
use Rattle.merge_pub.proofs.Asked.{ranges-made}
use Rattle.merge_pub.proofs.DraftFits.{granted-at, granted-keeps}
use Rattle.merge_pub.proofs.publisher.Publisher.draft_ranges.Goals as goal

pub draft_granting-requires-clause-keeps : goal.draft_granting-requires-clause-keeps
draft_granting-requires-clause-keeps c =
    granted-keeps _ c.plan_ranges.new.self c.args.self.now c.self.view_is c.self.invariant c.in_ok-planned.ensures.same c.in_ok-planned.ensures.publication c.args.m.now c.in_ok-planned.planned c.in_ok-check_ranges.ensures.others
    c.in_ok-planned.ensures.plans

pub returns-clause-made : goal.returns-clause-made
returns-clause-made c =
    ranges-made (publication_of c.args.self.now) c.args.now c.args.m.now (tables_of c.args.self.now) _ c.in_ok-planned.planned c.moment_at-latest.result _ c.in_ok-check_ranges.ensures.refusal c.moment_at-latest.ensures
    c.in_ok-planned.ensures.plans (rw c.as_slice.ensures at c.in_ok-told.ensures)
    (granted-at c.in_ok-draft.draft.changes c.in_ok-planned.planned c.moment_at-latest.result (tables_of c.plan_ranges.new.self) (tables_of c.args.self.now) c.in_ok-planned.ensures.same c.in_ok-draft.ensures.made)
