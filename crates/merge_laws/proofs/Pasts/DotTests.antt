-- What tests of dots say.
use Rattle.std.specs.Prelude.{◌≡◌, ℕ, List, ◌∷◌, true}
use Rattle.std.proofs.Common.{arith, ap, ◌∙◌}
use Rattle.std.proofs.lemmas.Bool.Decides.{nat_tests}
use Rattle.merge_types.specs.declared.identifiers.Dot.{Dot}
use Rattle.merge_model.specs.History.{has}
use Rattle.merge_laws.specs.Facts.Knowledge.{same_dot}

-- dots with the same parts are the same
pub dots-same : (a b : Dot) → same_dot a b ≡ true → a ≡ b
dots-same a b e =
    let site : a.site.0 ≡ b.site.0 = grind (arith, nat_tests, e) in
    let number : a.number ≡ b.number = grind (arith, nat_tests, e) in
    ap (λ (n : ℕ). (let dot : Dot = record { site = record { 0 = n }; number = a.number } in dot)) site ∙ ap (λ (n : ℕ). (let dot : Dot = record { site = b.site; number = n } in dot)) number

pub dot-itself : (a : Dot) → same_dot a a ≡ true
dot-itself a = grind (arith, nat_tests)

pub dot-first : (dot : Dot) (dots : List Dot) → has (dot ∷ dots) dot ≡ true
dot-first dot dots = grind (arith, nat_tests)
