-- Lists that do not fit.
use Rattle.std.proofs.Common.{◌≡◌, ◌≢◌, Bool, false, List, [], ◌∷◌, length, refl, arith}
use Rattle.merge_types.specs.declared.Value.{Value}
use Rattle.merge_resolve.specs.Counted.{fit_all}

-- unless there is one value for each, they do not fit
pub fit_all-uneven : {A : Type 0} (fits : A → Value → Bool) (xs : List A) (values : List Value) → length xs ≢ length values → fit_all fits xs values ≡ false
fit_all-uneven fits [] [] uneven = absurd (uneven refl)
fit_all-uneven fits [] (value ∷ values) uneven = refl
fit_all-uneven fits (x ∷ xs) [] uneven = refl
fit_all-uneven fits (x ∷ xs) (value ∷ values) uneven = grind (arith, fit_all-uneven fits xs values (λ even. uneven (omega arith)))
