-- A run finishes as the publisher served, or before.
use Rattle.std.proofs.Common.{List, Option, ap, inr, length, refl, rules, sym, ℕ, ◌∙◌, ◌≡◌}
use Rattle.merge_types.specs.declared.identifiers.SiteId.{SiteId}
use Rattle.merge_ports.specs.Entries.{Map}
use Rattle.merge_resolve.specs.Asked.{says_at}
use Rattle.merge_program.proofs.Serves.{never-done, ordered-ends, reached-by, unordered-ends-so}
use Rattle.merge_program.specs.Serving.{finish_status}
use Rattle.merge_program.proofs.serve.serve.Goals as goal

pub returns-in-Err-clause-asked : goal.returns-in-Err-clause-asked
returns-in-Err-clause-asked g c = inr refl

pub returns-in-Err-clause-reached : goal.returns-in-Err-clause-reached
returns-in-Err-clause-reached g c = λ zero.
    never-done c.in-Err.ending ((g.E.CommandOutside.offers c.args.outside.now).texts c.args.order.now.publication) c.len.result (g.E.Outside.counts c.args.outside.now).texts _ c.in-Err.ensures.ends zero

pub returns-clause-asked : goal.returns-clause-asked
returns-clause-asked g c = c.serve_store-served.ensures.asked

pub returns-clause-reached : goal.returns-clause-reached
returns-clause-reached g c = λ zero. reached-by _ c.serve_store-served.ensures.reached (sym (ap finish_status c.finish_of.ensures) ∙ zero)

pub returns-in-Err-clause-ends : goal.returns-in-Err-clause-ends
returns-in-Err-clause-ends g c = λ input reads failed.
    let counted : c.len.result ≡ length c.args.resolvers.now.items = search rules in
    unordered-ends-so _ _ _ _ _ _ _ refl _ counted c.in-Err.ensures.ends refl c.in-Err.ensures.told refl

pub returns-clause-ends : goal.returns-clause-ends
returns-clause-ends g c = λ input reads failed.
    let counted : c.len.result ≡ length c.args.resolvers.now.items = search rules in
    let same_items = ap (λ v. v.items) c.replace-handed.ensures.value in
    let said = ap (says_at (λ r. (goal.Resolver-dyn g (r.vtable, r.value)).says r.value)) same_items in
    ordered-ends _ _ _ _ _ _ _ c.finish_of.ensures _ _ counted c.in-Ok.ensures.read _ c.in-Ok.ensures.told _ c.in-Ok.ensures.stores _ said _ c.clamp.ensures c.serve_store-served.ensures.ends

pub returns-in-Err-clause-others : goal.returns-in-Err-clause-others
returns-in-Err-clause-others g c = λ s p other. ap (λ (f : SiteId → List ℕ → Option Map). f s p) c.in-Err.ensures.told

pub returns-clause-others : goal.returns-clause-others
returns-clause-others g c = λ s p other. c.serve_store-served.ensures.others s p other ∙ ap (λ (f : SiteId → List ℕ → Option Map). f s p) c.in-Ok.ensures.told
