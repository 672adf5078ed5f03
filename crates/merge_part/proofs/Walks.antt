-- Walks over lists in which something is looked for.
use Rattle.std.proofs.Common.{◌≡◌, ◌<◌, ◌+◌, ℕ, Bool, true, false, ◌||◌, List, ◌∷◌, length, drop, get_or, suc, refl, sym, ap, ◌∙◌, drop-cons, add-one}
use Rattle.std.specs.List.{list_any}

pub or_assoc : (a b c : Bool) → ((a || b) || c) ≡ (a || (b || c))
or_assoc true b c = refl
or_assoc false b c = refl

-- what was found so far or stands in what is left is what stands in all
pub any_step : {X : Type 0} (p : X → Bool) (so_far : Bool) (xs : List X) (i : ℕ) (d : X) (all : Bool) → i < length xs
    → (so_far || list_any p (drop i xs)) ≡ all → ((so_far || p (get_or xs i d)) || list_any p (drop (i + 1) xs)) ≡ all
any_step p so_far xs i d all less is =
    or_assoc so_far (p (get_or xs i d)) (list_any p (drop (i + 1) xs))
    ∙ ap (λ n. so_far || (p (get_or xs i d) || list_any p (drop n xs))) (add-one i)
    ∙ ap (λ rest. so_far || list_any p rest) (sym (drop-cons xs i d less))
    ∙ is

-- what is left begins with the element at hand
pub drop_next : {X : Type 0} (xs : List X) (i : ℕ) (x : X) → i < length xs → x ≡ get_or xs i x → drop i xs ≡ x ∷ drop (i + 1) xs
drop_next xs i x less is = drop-cons xs i x less ∙ ap (λ y. y ∷ drop (suc i) xs) (sym is) ∙ ap (λ n. x ∷ drop n xs) (sym (add-one i))
