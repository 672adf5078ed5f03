use Rattle.std.proofs.Common.{map}
use Rattle.merge_pub.specs.Held.{Held, publication_of, tables_of}
use Rattle.merge_resolve.specs.Asked.{says_at}
use Rattle.merge_site.specs.Drafting.{IsRequestDrafted}
use Rattle.merge_site.proofs.Drafts.{at-held}
use Rattle.merge_site.proofs.held_publisher.HeldPublisher.draft.Goals as goal

pub returns-clause-drafted : goal.returns-clause-drafted
returns-clause-drafted g c =
    let tallies = map (λ r. (goal.Resolver-dyn g (r.vtable, r.value)).tally_of r.value) c.args.resolvers.now.items in
    let told = map (λ r. (goal.Resolver-dyn g (r.vtable, r.value)).tally_of r.value) c.draft_request.new.resolvers.items in
    at-held (λ (h : Held). IsRequestDrafted (publication_of h) (says_at (λ r. (goal.Resolver-dyn g (r.vtable, r.value)).says r.value) c.args.resolvers.now.items) tallies told c.args.now c.args.request.now (tables_of h) c.draft_request.result)
    c.args.self.now c.self.inside.publisher _ c.self.view_is
    (record { worked = c.draft_request.ensures.worked; asked = c.draft_request.ensures.asked; some = c.draft_request.ensures.some; none = c.draft_request.ensures.none })
