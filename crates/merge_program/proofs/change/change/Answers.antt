-- A run ends at its site, or before.
use Rattle.std.proofs.Common.{List, Option, ap, refl, ℕ, ◌∙◌}
use Rattle.merge_types.specs.declared.identifiers.SiteId.{SiteId}
use Rattle.merge_ports.specs.Entries.{Map}
use Rattle.merge_ports.specs.declared.outside.Counts.{Counts}
use Rattle.merge_outside.specs.Offers.{Offers}
use Rattle.merge_program.proofs.Changes.{given-ends, ungiven-ends}
use Rattle.merge_program.proofs.change.change.Goals as goal

pub change_site-requires-clause-known : goal.change_site-requires-clause-known
change_site-requires-clause-known g c = c.in-Ok.ensures.given.there.known

pub returns-in-Ok-clause-ends : goal.returns-in-Ok-clause-ends
returns-in-Ok-clause-ends g c =
    let e = c.in-Ok.ensures in
    let opened = c.clock-clock.ensures in
    given-ends _ _ _ _ _ _ c.as_slice.ensures e.given _ _ (opened.stores ∙ e.told) _ (opened.moments ∙ ap (λ (o : Offers). o.moments) e.offers)
    _ (ap (λ (k : Counts). k.stores) opened.counts ∙ e.stores) c.change_site.ensures.ends

pub returns-in-Err-clause-ends : goal.returns-in-Err-clause-ends
returns-in-Err-clause-ends g c = let e = c.in-Err.ensures in ungiven-ends _ _ _ _ e.ends refl e.told e.offers e.links

pub returns-in-Ok-clause-others : goal.returns-in-Ok-clause-others
returns-in-Ok-clause-others g c = λ s p other.
    c.change_site.ensures.others s p other ∙ ap (λ (f : SiteId → List ℕ → Option Map). f s p) (c.clock-clock.ensures.stores ∙ c.in-Ok.ensures.told)

pub returns-in-Err-clause-others : goal.returns-in-Err-clause-others
returns-in-Err-clause-others g c = λ s p other. ap (λ (f : SiteId → List ℕ → Option Map). f s p) c.in-Err.ensures.told

pub returns-in-Ok-clause-counted : goal.returns-in-Ok-clause-counted
returns-in-Ok-clause-counted g c = λ other. c.in-Ok.ensures.counted (λ is. absurd (cc is))

pub returns-in-Err-clause-counted : goal.returns-in-Err-clause-counted
returns-in-Err-clause-counted g c = λ other. c.in-Err.ensures.counted (λ is. other (cc is))
