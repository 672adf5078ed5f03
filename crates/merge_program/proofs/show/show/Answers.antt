-- A run ends at its site, or before.
use Rattle.std.proofs.Common.{List, Option, ap, refl, ℕ, ◌∙◌}
use Rattle.merge_types.specs.declared.identifiers.SiteId.{SiteId}
use Rattle.merge_ports.specs.Entries.{Map}
use Rattle.merge_program.proofs.Shows.{named-ends, unnamed-ends}
use Rattle.merge_program.proofs.show.show.Goals as goal

pub returns-in-Ok-clause-ends : goal.returns-in-Ok-clause-ends
returns-in-Ok-clause-ends g c = λ input reads failed. named-ends _ _ _ _ _ c.in-Ok.ensures.named _ _ c.in-Ok.ensures.told _ c.in-Ok.ensures.stores c.show_site.ensures.ends

pub returns-in-Err-clause-ends : goal.returns-in-Err-clause-ends
returns-in-Err-clause-ends g c = λ input reads failed. let e = c.in-Err.ensures in unnamed-ends _ _ _ _ _ e.ends refl e.told e.offers e.links

pub returns-in-Ok-clause-others : goal.returns-in-Ok-clause-others
returns-in-Ok-clause-others g c = λ s p other. c.show_site.ensures.others s p other ∙ ap (λ (f : SiteId → List ℕ → Option Map). f s p) c.in-Ok.ensures.told

pub returns-in-Err-clause-others : goal.returns-in-Err-clause-others
returns-in-Err-clause-others g c = λ s p other. ap (λ (f : SiteId → List ℕ → Option Map). f s p) c.in-Err.ensures.told
