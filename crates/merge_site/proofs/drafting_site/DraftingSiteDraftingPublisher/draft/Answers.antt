use Rattle.std.proofs.Common.{map}
use Rattle.merge_pub.specs.Held.{publication_of, tables_of}
use Rattle.merge_resolve.specs.Asked.{says_at}
use Rattle.merge_site.proofs.Drafts.{made-decided}
use Rattle.merge_site.proofs.drafting_site.DraftingSiteDraftingPublisher.draft.Goals as goal

pub returns-clause-made : goal.returns-clause-made
returns-clause-made g c =
    made-decided (publication_of c.args.self.now.site.held) (says_at (λ r. (goal.Resolver-dyn g (r.vtable, r.value)).says r.value) c.args.self.now.resolvers.items) (map (λ r. (goal.Resolver-dyn g (r.vtable, r.value)).tally_of r.value) c.args.self.now.resolvers.items) c.args.now c.args.request.now (tables_of c.args.self.now.site.held) _ c.draft_in_ledger.result c.draft_in_ledger.ensures.drafted.worked
