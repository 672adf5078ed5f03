-- Dots whose sites ascend, by recursion on the list.
use Rattle.std.proofs.Common.{ℕ, zero, suc, ◌+◌, ◌<◌, ◌≤◌, List, [], ◌∷◌, length, get_or, arith}
use Rattle.std.proofs.lemmas.Bool.Decides.{nat_tests}
use Rattle.merge_types.specs.declared.Dot.{Dot}
use Rattle.merge_lineage.specs.Lineage.{IsAscending, with_dot}

-- the sites ascend, and none is below low
abbrev pub RisesFrom : ℕ → List Dot → Type 0
RisesFrom low [] = Unit {0}
RisesFrom low (dot ∷ rest) = (low ≤ dot.site.0) × RisesFrom (dot.site.0 + 1) rest

pub rises_at : (low : ℕ) (l : List Dot) → RisesFrom low l → (k : ℕ) (d : Dot) → k < length l → low ≤ (get_or l k d).site.0
rises_at low [] rises k d lt = absurd (omega arith)
rises_at low (x ∷ xs) rises zero d lt = rises.0
rises_at low (x ∷ xs) rises (suc k) d lt = omega (arith, rises.0, rises_at (x.site.0 + 1) xs rises.1 k d (omega arith))

pub ascending_from_rises : (low : ℕ) (l : List Dot) → RisesFrom low l → IsAscending l
ascending_from_rises low [] rises i j d lt in_range = absurd (omega arith)
ascending_from_rises low (x ∷ xs) rises i zero d lt in_range = absurd (omega arith)
ascending_from_rises low (x ∷ xs) rises zero (suc j) d lt in_range = omega (arith, rises_at (x.site.0 + 1) xs rises.1 j d (omega arith))
ascending_from_rises low (x ∷ xs) rises (suc i) (suc j) d lt in_range = ascending_from_rises (x.site.0 + 1) xs rises.1 i j d (omega arith) (omega arith)

rises_above : (low : ℕ) (l : List Dot) → IsAscending l → ((k : ℕ) (d : Dot) → k < length l → low ≤ (get_or l k d).site.0) → RisesFrom low l
rises_above low [] ascending above = tt
rises_above low (x ∷ xs) ascending above = (
  above 0 x (omega arith),
  rises_above (x.site.0 + 1) xs
      (λ i j d lt in_range. ascending (suc i) (suc j) d (omega arith) (omega arith))
      (λ k d lt. omega (arith, ascending 0 (suc k) d (omega arith) (omega arith))),
)

pub rises_from_ascending : (l : List Dot) → IsAscending l → RisesFrom 0 l
rises_from_ascending l ascending = rises_above 0 l ascending (λ k d lt. omega arith)

-- a dot goes to its place
pub rises_with_dot : (low : ℕ) (l : List Dot) → RisesFrom low l → (d : Dot) → low ≤ d.site.0 → RisesFrom low (with_dot d l)
rises_with_dot low [] rises d le = (le, tt)
rises_with_dot low (x ∷ xs) rises d le = grind (arith, nat_tests, rises.0, rises.1, rises_with_dot (x.site.0 + 1) xs rises.1 d)

pub ascending_with_dot : (l : List Dot) → IsAscending l → (d : Dot) → IsAscending (with_dot d l)
ascending_with_dot l ascending d = ascending_from_rises 0 (with_dot d l) (rises_with_dot 0 l (rises_from_ascending l ascending) d (omega arith))
