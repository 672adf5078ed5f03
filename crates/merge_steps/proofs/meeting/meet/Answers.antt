use Rattle.std.proofs.Common.{map}
use Rattle.merge_resolve.specs.Asked.{says_at}
use Rattle.merge_steps.proofs.DecidedRows.{counts-equal}
use Rattle.merge_steps.proofs.Meetings.{meet-passed}
use Rattle.merge_steps.proofs.meeting.meet.Goals as goal

pub classify-requires : goal.classify-requires
classify-requires g c = counts-equal c.requires.valid.0 c.args.publication.now c.requires.valid.1 c.args.item.now.article c.args.held.now c.args.item.now.version c.requires.held.fits c.requires.item.fits

pub take_met-requires : goal.take_met-requires
take_met-requires g c = record {
  held = c.requires.held;
  item = c.requires.item;
  case = c.in_ok-case.ensures.case;
  counts = counts-equal c.requires.valid.0 c.args.publication.now c.requires.valid.1 c.args.item.now.article c.args.held.now c.args.item.now.version c.requires.held.fits c.requires.item.fits;
  decision = c.in_ok-decision.ensures.fits;
  changes = c.requires.changes;
  conflicts = c.requires.conflicts;
}

pub returns-clause-passed : goal.returns-clause-passed
returns-clause-passed g c =
    meet-passed c.args.publication.now c.args.arrival c.args.item.now c.args.held.now c.in_ok-case.case c.in_ok-decision.decision (says_at (λ r. (goal.Resolver-dyn g (r.vtable, r.value)).says r.value) c.args.resolvers.now.items) (map (λ r. (goal.Resolver-dyn g (r.vtable, r.value)).tally_of r.value) c.args.resolvers.now.items) (map (λ r. (goal.Resolver-dyn g (r.vtable, r.value)).tally_of r.value) c.decide.new.resolvers.items) c.args.acting.now c.take_met.new.acting c.in_ok-case.ensures.case c.in_ok-decision.ensures.decision c.in_ok-decision.ensures.tallies
    c.in_ok-take_met.ensures.passed
