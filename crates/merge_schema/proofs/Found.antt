-- What a search finds is a member of the list, and passes.
use Rattle.std.proofs.Common.{◌≡◌, Bool, true, false, cond, List, [], ◌∷◌, Some, None, All, find, refl, sym, ap, subst, ◌∙◌, arith}
use Rattle.std.specs.List.{Contains}
use Rattle.std.proofs.lemmas.List.Elements.{Contains-append_right}

module _ {X : Type 0} where
  some_is : (x y : X) → Some x ≡ Some y → x ≡ y
  some_is x y h = cc

  nothing_found : (x : X) → Some x ≡ None → ⊥
  nothing_found x h = cc

  pub found_in : (test : X → Bool) (xs : List X) (x : X) → Some x ≡ find test xs → Contains xs x × (test x ≡ true)
  found_in test [] x h = absurd (nothing_found x h)
  found_in test (y ∷ ys) x h = by (test y) refl h (found_in test ys x)
    where
      by : (b : Bool) → test y ≡ b → Some x ≡ cond b (Some y) (find test ys) → (Some x ≡ find test ys → Contains ys x × (test x ≡ true)) → Contains (y ∷ ys) x × (test x ≡ true)
      by true e g others = let same : x ≡ y = some_is x y g in ((0, omega arith, sym same), ap test same ∙ e)
      by false e g others = let later = others g in (Contains-append_right (y ∷ []) ys x later.0, later.1)

  pub all_at : (P : X → Type 0) (xs : List X) (x : X) → All P xs → Contains xs x → P x
  all_at P xs x every (k, less, at) = subst P at (every k x less)
