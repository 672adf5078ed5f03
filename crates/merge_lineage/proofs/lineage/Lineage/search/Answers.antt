use Rattle.std.proofs.Common.{rules}
use Rattle.std.proofs.lemmas.List.Sorted.{answers_always}
use Rattle.merge_types.specs.declared.Dot.{Dot}
use Rattle.merge_lineage.proofs.Place.{searched}
use Rattle.merge_lineage.proofs.lineage.Lineage.search.Goals as goal

-- the closure gives a dot's site, and the slice is the lineage's dots
pub returns : goal.returns
returns c =
    let facts = c.binary_search_by_key.ensures in
    let by_site = facts.position (λ (dot : Dot). dot.site.0) (answers_always _ _ _ (λ f a r g called. search rules)) in
    rw (← c.self.view_is, ← c.deref.ensures.value) (searched _ (rw c.deref.ensures.value c.self.invariant) c.args.site.0 _ facts.bound by_site)
