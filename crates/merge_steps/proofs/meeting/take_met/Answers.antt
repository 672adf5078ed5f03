use Rattle.std.proofs.Common.{Some, refl}
use Rattle.merge_steps.proofs.Meetings.{grown, met-added, met-fits, met-kept, new-dot}
use Rattle.merge_steps.proofs.meeting.take_met.Goals as goal

pub apply-requires : goal.apply-requires
apply-requires c = record {
  fits = met-fits c.args.publication.now c.args.item.now c.args.held.now c.args.case.now c.args.decision c.requires.case c.requires.counts c.requires.decision;
  dot = new-dot c.args.held.now.lineage c.args.item.now.version.lineage c.args.acting.now.changes c.args.decision _ refl refl c.requires.held.known c.requires.item.known;
}

pub returns-clause-passed : goal.returns-clause-passed
returns-clause-passed c =
    met-added c.args.publication.now c.args.arrival c.args.item.now c.args.held.now c.in_ok-version.version c.args.case.now c.args.decision c.tracking.result c.key_of_item-key.result c.in_ok-lost.lost c.kept-decided.result c.decided_changes-made.result c.args.acting.now _
    c.tracking.ensures c.key_of_item-key.ensures c.in_ok-version.ensures c.in_ok-lost.ensures.lost c.kept-decided.ensures c.decided_changes-made.ensures.changes c.in_ok-add.ensures

pub returns-clause-grows : goal.returns-clause-grows
returns-clause-grows c = grown c.args.acting.now _ c.key_of_item-key.result (Some (c.key_of_item-key.result, c.in_ok-version.version)) c.in_ok-lost.lost c.kept-decided.result c.decided_changes-made.result c.in_ok-add.ensures c.decided_changes-made.ensures.one c.in_ok-lost.ensures.few

pub returns-clause-fits : goal.returns-clause-fits
returns-clause-fits c =
    met-kept c.args.publication.now c.args.item.now c.args.held.now c.in_ok-version.version c.args.case.now c.args.decision c.key_of_item-key.result c.in_ok-lost.lost c.kept-decided.result c.decided_changes-made.result c.args.acting.now _
    c.key_of_item-key.ensures c.decided_changes-made.ensures.changes c.requires.held c.requires.item c.dots.ensures.ascending c.dots-2.ensures.ascending c.requires.case c.requires.decision c.in_ok-version.ensures c.in_ok-add.ensures
