use Rattle.std.proofs.Common.{map}
use Rattle.merge_resolve.specs.Asked.{says_at}
use Rattle.merge_steps.proofs.Meetings.{answered-there}
use Rattle.merge_steps.proofs.meeting.answer.Goals as goal

pub returns-clause-decision : goal.returns-clause-decision
returns-clause-decision g c =
    answered-there (says_at (λ r. (goal.Resolver-dyn g (r.vtable, r.value)).says r.value) c.args.resolvers.now.items) (map (λ r. (goal.Resolver-dyn g (r.vtable, r.value)).tally_of r.value) c.args.resolvers.now.items) c.args.question.now c.in_ok-decision.decision c.in_ok-counted.counted c.in_ok-decision.ensures.decision
    (rw (c.as_slice.ensures, c.as_slice-2.ensures) at c.in_ok-counted.ensures.counted)
