-- One element more, of what is made of each element of a list.
use Rattle.std.specs.List.{cons_option, flat_map}
use Rattle.std.specs.Prelude.{◌≡◌, ◌+◌, ◌<◌, ◌++◌, ℕ, List, [], ◌∷◌, None, Option, Some, drop, filter_map, length, refl, suc}
use Rattle.std.proofs.Common.{ap, arith, get_or, sym, ◌∙◌}
use Rattle.std.proofs.Math.Seq.{drop-cons}
use Rattle.std.proofs.lemmas.List.{append_assoc}

pub rest-at : {X : Type 0} (xs : List X) (at : ℕ) (d : X) → at < length xs → drop at xs ≡ get_or xs at d ∷ drop (at + 1) xs
rest-at xs at d less = let next : at + 1 ≡ suc at = omega arith in rw next (drop-cons xs at d less)

abbrev pub given : {Y : Type 0} → Option Y → List Y
given None = []
given (Some y) = y ∷ []

given-behind : {Y : Type 0} (found : Option Y) (done rest : List Y) → (done ++ given found) ++ rest ≡ done ++ cons_option found rest
given-behind None done rest = append_assoc done [] rest
given-behind (Some y) done rest = append_assoc done (y ∷ []) rest

module _ {X Y : Type 0} where
  -- of some
  pub given-more : (f : X → Option Y) (xs : List X) (at : ℕ) (d : X) (found : Option Y) (done all made : List Y) → at < length xs → found ≡ f (get_or xs at d) → done ++ filter_map f (drop at xs) ≡ all → made ≡ done ++ given found
      → made ++ filter_map f (drop (at + 1) xs) ≡ all
  given-more f xs at d found done all made less is so_far more =
      ap (λ (front : List Y). front ++ filter_map f (drop (at + 1) xs)) more
      ∙ given-behind found done (filter_map f (drop (at + 1) xs))
      ∙ ap (λ (o : Option Y). done ++ cons_option o (filter_map f (drop (at + 1) xs))) is
      ∙ ap (λ (ys : List X). done ++ filter_map f ys) (sym (rest-at xs at d less))
      ∙ so_far

  -- of several
  pub flat-more : (f : X → List Y) (xs : List X) (at : ℕ) (d : X) (done all made : List Y) → at < length xs → done ++ flat_map f (drop at xs) ≡ all → made ≡ done ++ f (get_or xs at d)
      → made ++ flat_map f (drop (at + 1) xs) ≡ all
  flat-more f xs at d done all made less so_far more =
      ap (λ (front : List Y). front ++ flat_map f (drop (at + 1) xs)) more
      ∙ append_assoc done (f (get_or xs at d)) (flat_map f (drop (at + 1) xs))
      ∙ ap (λ (ys : List X). done ++ flat_map f ys) (sym (rest-at xs at d less))
      ∙ so_far
