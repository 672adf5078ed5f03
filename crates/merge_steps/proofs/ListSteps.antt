-- Lists that a loop over a slice builds, with what one more element adds.
use Rattle.std.specs.Prelude.{◌≡◌, ◌<◌, ◌+◌, ◌++◌, ℕ, Bool, List, [], ◌∷◌, cond, filter, flat_map, get_or, length, take}
use Rattle.std.proofs.Common.{sym, ap, ◌∙◌, add-one, append-nil}
use Rattle.std.proofs.Math.Seq.{take-suc}
use Rattle.std.proofs.lemmas.Grind.{flat_map-append}
use Rattle.std.proofs.lemmas.List.Elements.{filter-append}

taken-more : {X : Type 0} (xs : List X) (i : ℕ) (d : X) → i < length xs → take (i + 1) xs ≡ take i xs ++ get_or xs i d ∷ []
taken-more xs i d less = ap (λ (n : ℕ). take n xs) (add-one i) ∙ take-suc xs i d less

pub filter-step : {X : Type 0} (test : X → Bool) (xs : List X) (i : ℕ) (d : X) (kept new : List X) → i < length xs → kept ≡ filter test (take i xs) → new ≡ kept ++ cond (test (get_or xs i d)) (get_or xs i d ∷ []) [] → new ≡ filter test (take (i + 1) xs)
filter-step {X = X} test xs i d kept new less so_far is =
    is
    ∙ ap (λ (ys : List X). ys ++ cond (test (get_or xs i d)) (get_or xs i d ∷ []) []) so_far
    ∙ sym (ap (filter test) (taken-more xs i d less) ∙ filter-append test (take i xs) (get_or xs i d ∷ []))

pub flat-step : {X Y : Type 0} (f : X → List Y) (xs : List X) (i : ℕ) (d : X) (old more new : List Y) → i < length xs → old ≡ flat_map f (take i xs) → more ≡ f (get_or xs i d) → new ≡ old ++ more → new ≡ flat_map f (take (i + 1) xs)
flat-step {Y = Y} f xs i d old more new less so_far is added =
    added
    ∙ ap (λ (ys : List Y). ys ++ more) so_far
    ∙ ap (λ (ys : List Y). flat_map f (take i xs) ++ ys) (is ∙ sym (append-nil (f (get_or xs i d))))
    ∙ sym (ap (flat_map f) (taken-more xs i d less) ∙ flat_map-append f (take i xs) (get_or xs i d ∷ []))
