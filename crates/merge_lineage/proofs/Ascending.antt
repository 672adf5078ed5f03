-- The test of a lineage.
use Rattle.std.proofs.Common.{◌≡◌, ℕ, ◌+◌, true, List, [], ◌∷◌, refl, arith}
use Rattle.std.proofs.lemmas.Bool.Decides.{nat_tests}
use Rattle.merge_types.specs.declared.Dot.{Dot}
use Rattle.merge_lineage.specs.Lineage.{IsAscending, ascending, ascending_behind}
use Rattle.merge_lineage.specs.Laws.{AscendingIsTested}
use Rattle.merge_lineage.proofs.Rising.{RisesFrom, ascending_from_rises, rises_from_ascending}

behind_rises : (site : ℕ) (dots : List Dot) → ascending_behind site dots ≡ true → RisesFrom (site + 1) dots
behind_rises site [] tested = tt
behind_rises site (dot ∷ rest) tested = (grind (arith, nat_tests), behind_rises dot.site.0 rest (grind arith))

rises_behind : (site : ℕ) (dots : List Dot) → RisesFrom (site + 1) dots → ascending_behind site dots ≡ true
rises_behind site [] rises = refl
rises_behind site (dot ∷ rest) rises = grind (arith, nat_tests, rises.0, rises_behind dot.site.0 rest rises.1)

pub ascending_sound : (dots : List Dot) → ascending dots ≡ true → IsAscending dots
ascending_sound [] tested = ascending_from_rises 0 [] tt
ascending_sound (dot ∷ rest) tested = ascending_from_rises 0 (dot ∷ rest) (omega arith, behind_rises dot.site.0 rest tested)

pub ascending_complete : (dots : List Dot) → IsAscending dots → ascending dots ≡ true
ascending_complete [] ascends = refl
ascending_complete (dot ∷ rest) ascends = rises_behind dot.site.0 rest (rises_from_ascending (dot ∷ rest) ascends).1

pub ascending_is_tested : AscendingIsTested
ascending_is_tested dots = (λ tested. ascending_sound dots tested, λ ascends. ascending_complete dots ascends)
