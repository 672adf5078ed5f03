use Rattle.merge_served.proofs.Tallies.{ruled-steady}
use Rattle.merge_served.proofs.resolvers_by_rules_say_the_same_at_any_tally.Goals as goal

pub returns : goal.returns
returns g c = ruled-steady (λ r. (goal.Resolver-dyn g (r.vtable, r.value)).says r.value) c.args.resolvers.now c.requires
