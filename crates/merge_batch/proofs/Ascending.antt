-- Lineages whose sites ascend pass the test of it.
use Rattle.std.proofs.Common.{◌≡◌, ℕ, suc, ◌<◌, true, List, [], ◌∷◌, length, get_or, refl, arith}
use Rattle.std.specs.List.{list_all}
use Rattle.std.specs.Prelude.{nat_lt}
use Rattle.std.proofs.lemmas.Bool.Decides.{nat_tests}
use Rattle.merge_types.specs.declared.Dot.{Dot}
use Rattle.merge_lineage.specs.Lineage.{IsAscending}
use Rattle.merge_batch.specs.Lineages.{sites_ascend}

all_later : (site : ℕ) (dots : List Dot) → ((k : ℕ) (d : Dot) → k < length dots → site < (get_or dots k d).site.0)
    → list_all (λ (later : Dot). nat_lt site later.site.0) dots ≡ true
all_later site [] below = refl
all_later site (dot ∷ dots) below = grind (arith, nat_tests, below 0 dot, all_later site dots (λ k d lt. below (suc k) d (omega arith)))

pub sites_ascend-ascending : (dots : List Dot) → IsAscending dots → sites_ascend dots ≡ true
sites_ascend-ascending [] ascending = refl
sites_ascend-ascending (dot ∷ dots) ascending =
    grind (
      arith,
      all_later dot.site.0 dots (λ k d lt. ascending 0 (suc k) d (omega arith) (omega arith)),
      sites_ascend-ascending dots (λ i j d lt in_range. ascending (suc i) (suc j) d (omega arith) (omega arith)),
    )
