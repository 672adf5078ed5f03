-- The numbers that sites have.
use Rattle.std.proofs.Common.{◌≡◌, ℕ, ◌+◌, ◌<◌, List, [], ◌∷◌, Option, Some, None, refl, ap, ◌∙◌, arith}
use Rattle.std.proofs.lemmas.Bool.Decides.{nat_tests}
use Rattle.merge_types.specs.declared.Dot.{Dot}
use Rattle.merge_lineage.specs.Lineage.{IsAscending, number_at, greater, Joins, with_dot}
use Rattle.merge_lineage.proofs.Rising.{RisesFrom, rises_from_ascending}

pub greater-none : (n : Option ℕ) → greater n None ≡ n
greater-none None = refl
greater-none (Some n) = refl

-- a site below all has none
pub number_below : (low : ℕ) (l : List Dot) → RisesFrom low l → (q : ℕ) → q < low → number_at l q ≡ None
number_below low [] rises q lt = refl
number_below low (x ∷ xs) rises q lt = grind (arith, nat_tests, rises.0, number_below (x.site.0 + 1) xs rises.1 q)

number_with : (low : ℕ) (l : List Dot) → RisesFrom low l → (d : Dot) → Joins l (d ∷ []) (with_dot d l)
number_with low [] rises d q = refl
number_with low (x ∷ xs) rises d q = grind (arith, nat_tests, greater-none (number_at (x ∷ xs) q), greater-none (number_at xs q), number_below (x.site.0 + 1) xs rises.1 q, number_with (x.site.0 + 1) xs rises.1 d q)

-- a dot is joined in at its place
pub number-with_dot : (l : List Dot) → IsAscending l → (d : Dot) → Joins l (d ∷ []) (with_dot d l)
number-with_dot l ascending d = number_with 0 l (rises_from_ascending l ascending) d

pub joins_with_dot : (l new : List Dot) → IsAscending l → (d : Dot) → new ≡ with_dot d l → Joins l (d ∷ []) new
joins_with_dot l new ascending d is site = ap (λ m. number_at m site) is ∙ number-with_dot l ascending d site
