use Rattle.std.proofs.Common.{map}
use Rattle.merge_resolve.specs.Asked.{says_at}
use Rattle.merge_site.proofs.drafting.draft_request.Goals as goal

pub returns-in-Join-clause-worked : goal.returns-in-Join-clause-worked
returns-in-Join-clause-worked g c = rw c.in-Join.is (c.draft_join.ensures.worked (says_at (λ r. (goal.Resolver-dyn g (r.vtable, r.value)).says r.value) c.args.resolvers.now.items) (map (λ r. (goal.Resolver-dyn g (r.vtable, r.value)).tally_of r.value) c.args.resolvers.now.items))

pub returns-in-Ranges-clause-worked : goal.returns-in-Ranges-clause-worked
returns-in-Ranges-clause-worked g c = rw c.in-Ranges.is (c.draft_ranges.ensures.worked (says_at (λ r. (goal.Resolver-dyn g (r.vtable, r.value)).says r.value) c.args.resolvers.now.items) (map (λ r. (goal.Resolver-dyn g (r.vtable, r.value)).tally_of r.value) c.args.resolvers.now.items))

pub returns-in-Download-clause-worked : goal.returns-in-Download-clause-worked
returns-in-Download-clause-worked g c = rw c.in-Download.is (c.draft_download.ensures.worked (says_at (λ r. (goal.Resolver-dyn g (r.vtable, r.value)).says r.value) c.args.resolvers.now.items) (map (λ r. (goal.Resolver-dyn g (r.vtable, r.value)).tally_of r.value) c.args.resolvers.now.items))
