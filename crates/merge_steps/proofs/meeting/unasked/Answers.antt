use Rattle.std.proofs.Common.{map}
use Rattle.merge_steps.proofs.Meetings.{answered-past, raised-past}
use Rattle.merge_steps.proofs.meeting.unasked.Goals as goal

pub returns-clause-decision : goal.returns-clause-decision
returns-clause-decision g c = answered-past (λ r. (goal.Resolver-dyn g (r.vtable, r.value)).says r.value) c.args.resolvers.now.items (map (λ r. (goal.Resolver-dyn g (r.vtable, r.value)).tally_of r.value) c.args.resolvers.now.items) c.args.question.now c.requires

pub returns-clause-tallies : goal.returns-clause-tallies
returns-clause-tallies g c = raised-past (λ r. (goal.Resolver-dyn g (r.vtable, r.value)).tally_of r.value) c.args.resolvers.now.items c.args.question.now.place c.requires
