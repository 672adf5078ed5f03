-- One text names at most one row.
use Rattle.std.proofs.Common.{◌≡◌, ℕ, ◌<◌, ◌^◌, ◌⊎◌, inl, inr, List, ◌∷◌, arith, sym, ◌∙◌}
use Rattle.std.specs.Fmt.{decimal}
use Rattle.std.proofs.lemmas.Fmt.{decimal_injective}
use Rattle.merge_types.specs.Guid.{IsGuidText}
use Rattle.merge_types.specs.Rows.{IsDotText, IsMadeBy, IsRowLiteral, row_number}
use Rattle.merge_types.proofs.Guids.{IsGuidText-one, length-IsGuidText}
use Rattle.merge_types.proofs.Points.{decimal_without_point, length-IsDotText, point_same}

one_dot : (text : List ℕ) (s n t m : ℕ) → IsDotText text s n → IsDotText text t m → (s ≡ t) × (n ≡ m)
one_dot text s n t m is other =
    let s_small : s < 2 ^ 64 = omega (arith, is.site_fits) in
    let t_small : t < 2 ^ 64 = omega (arith, other.site_fits) in
    let parts : (decimal s ≡ decimal t) × (decimal n ≡ decimal m) = point_same (decimal s) (decimal n) (decimal t) (decimal m)
    (decimal_without_point s s_small) (decimal_without_point t t_small) (sym is.spelled ∙ other.spelled) in
    (decimal_injective s t s_small t_small parts.0, decimal_injective n m (omega (arith, is.fits)) (omega (arith, other.fits)) parts.1)

named_one : (text : List ℕ) (row other s n t m : ℕ) → IsMadeBy row s n → IsMadeBy other t m
    → IsGuidText text row ⊎ IsDotText text s n → IsGuidText text other ⊎ IsDotText text t m → row ≡ other
named_one text row other s n t m made making (inl is) (inl second) = IsGuidText-one text row other is second
named_one text row other s n t m made making (inl is) (inr second) =
    absurd (omega (arith, length-IsGuidText text row is, length-IsDotText text t m second))
named_one text row other s n t m made making (inr is) (inl second) =
    absurd (omega (arith, length-IsGuidText text other second, length-IsDotText text s n is))
named_one text row other s n t m made making (inr is) (inr second) =
    let same = one_dot text s n t m is second in
    let sites : s ≡ t = same.0 in
    let numbers : n ≡ m = same.1 in
    let first : row ≡ row_number s n = made.same in
    let last : other ≡ row_number t m = making.same in
    omega arith

pub one_row : (text : List ℕ) (row other : ℕ) → IsRowLiteral text row → IsRowLiteral text other → row ≡ other
one_row text row other is second =
    named_one text row other is.site is.number second.site second.number is.made second.made is.named second.named
