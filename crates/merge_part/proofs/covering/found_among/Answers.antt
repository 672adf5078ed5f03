use Rattle.std.proofs.Common.{inl, inr, sym, ◌∙◌}
use Rattle.merge_part.specs.Sites.{has_site}
use Rattle.merge_part.proofs.Covered.{or_cases}
use Rattle.merge_part.proofs.covering.found_among.Goals as goal

pub loop-entry-preserved : goal.loop-entry-preserved
loop-entry-preserved c = λ place has.
    elim (or_cases (has_site c.loop-entry.found place) (has_site c.given_by_other.result place) (sym (c.union-found.ensures place) ∙ has)) [
      | inl before ↦ c.loop-entry.invariant place before
      | inr now ↦ c.given_by_other.ensures place now
    ]
