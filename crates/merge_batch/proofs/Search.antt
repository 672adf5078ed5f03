-- The search for the first item that breaks a rule, item by item.
use Rattle.std.proofs.Common.{◌≡◌, ◌∙◌, ℕ, zero, suc, ◌+◌, ◌<◌, ◌==◌, ◌&&◌, ◌||◌, not, Bool, map, List, [], ◌∷◌, length, drop, get_or, Option, Some, refl, ap, arith}
use Rattle.std.specs.List.{list_any}
use Rattle.std.specs.Option.{option_or, option_map}
use Rattle.merge_batch.specs.Search.{first_broken, broken_at, broken_from, are_distinct}

-- what is left from a place on begins with what stands there
pub drop-at : {X : Type 0} (xs : List X) (at : ℕ) (x : X) → at < length xs → x ≡ get_or xs at x → drop at xs ≡ x ∷ drop (at + 1) xs
drop-at [] at x lt is = absurd (omega arith)
drop-at (first ∷ xs) zero x lt is = grind (arith, is)
drop-at (first ∷ xs) (suc at) x lt is = grind (arith, drop-at xs at x (omega arith) is)

-- the item at a place is held against the one before it, and the search goes on with the next
pub broken_from-at : {X : Type 0} (rules : Option X → X → List (ℕ × Bool)) (place : ℕ) (before : Option X) (items : List X) (at : ℕ) (item : X)
    → at < length items → item ≡ get_or items at item
    → broken_from rules place before (drop at items)
    ≡ option_or (option_map (broken_at place) (first_broken (rules before item))) (broken_from rules (place + 1) (Some item) (drop (at + 1) items))
broken_from-at rules place before items at item lt is = ap (broken_from rules place before) (drop-at items at item lt is)

list_any-map : {X : Type 0} (p : ℕ → Bool) (f : X → ℕ) (xs : List X) → list_any p (map f xs) ≡ list_any (λ x. p (f x)) xs
list_any-map p f [] = refl
list_any-map p f (x ∷ xs) = ap (λ b. p (f x) || b) (list_any-map p f xs)

-- a member differs from those behind it, and these differ
pub distinct-at : {X : Type 0} (f : X → ℕ) (xs : List X) (at : ℕ) (x : X) → at < length xs → x ≡ get_or xs at x
    → are_distinct (map f (drop at xs)) ≡ (not (list_any (λ y. f y == f x) (drop (at + 1) xs)) && are_distinct (map f (drop (at + 1) xs)))
distinct-at f xs at x lt is = ap (λ ys. are_distinct (map f ys)) (drop-at xs at x lt is) ∙ ap (λ b. not b && are_distinct (map f (drop (at + 1) xs))) (list_any-map (λ m. m == f x) f (drop (at + 1) xs))
