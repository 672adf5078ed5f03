-- What a sort of places and a removal of repeats leave.
use Rattle.std.specs.Prelude.{◌≡◌, ◌↔◌, ◌&&◌, Bool, true, List, Contains}
use Rattle.std.specs.List.{dedup}
use Rattle.std.specs.List.Sorted.{IsPermutation, IsSorted, IsStrictlySortedBy}
use Rattle.std.specs.Cmp.{Equal-is, IsEquivalence, and_equiv, both_tied, nat_eq_equiv, on_equiv, unsigned_ties}
use Rattle.std.specs.Ordering.{eq_by_cmp, nat_cmp}
use Rattle.std.proofs.Common.{nat_eq, sym, ◌∙◌}
use Rattle.std.proofs.lemmas.List.Kept.{Contains-dedup, Contains-from_dedup, IsStrictlySortedBy-dedup}
use Rattle.std.proofs.lemmas.List.Sorted.{Contains-permutation, IsPermutation-sym}
use Rattle.merge_types.specs.RowKeys.{key_cmp}
use Rattle.merge_gens.specs.Moves.{row_site_cmp, row_site_exact}
use Rattle.merge_gens.specs.declared.moves.RowSite.{RowSite}
use Rattle.merge_model.proofs.Publishers.Sorted.{row_site_total}

abbrev same_place : RowSite → RowSite → Bool
same_place x y = (nat_eq x.key.article y.key.article && nat_eq x.key.row.0 y.key.row.0) && nat_eq x.site y.site

same-equiv : IsEquivalence same_place
same-equiv = and_equiv (and_equiv (on_equiv (λ (x : RowSite). x.key.article) nat_eq_equiv) (on_equiv (λ (x : RowSite). x.key.row.0) nat_eq_equiv)) (on_equiv (λ (x : RowSite). x.site) nat_eq_equiv)

same-ties : (x y : RowSite) → same_place x y ≡ eq_by_cmp row_site_cmp x y
same-ties x y =
    both_tied _ _ (key_cmp x.key y.key) (nat_cmp x.site y.site)
    (both_tied _ _ (nat_cmp x.key.article y.key.article) (nat_cmp x.key.row.0 y.key.row.0) (unsigned_ties x.key.article y.key.article) (unsigned_ties x.key.row.0 y.key.row.0)) (unsigned_ties x.site y.site)

same-exact : (x y : RowSite) → same_place x y ≡ true → x ≡ y
same-exact x y same = row_site_exact x y ((Equal-is (row_site_cmp x y)).0 (sym (same-ties x y) ∙ same))

pub ascending-places : (xs : List RowSite) → IsSorted row_site_cmp xs → IsStrictlySortedBy row_site_cmp (dedup same_place xs)
ascending-places xs sorted = IsStrictlySortedBy-dedup row_site_total same-ties xs sorted

pub same-places : (xs ys : List RowSite) → IsPermutation xs ys → (place : RowSite) → Contains (dedup same_place ys) place ↔ Contains xs place
same-places xs ys moved place = (
  λ h. Contains-permutation ys xs place (IsPermutation-sym xs ys moved) (Contains-from_dedup same_place ys place h),
  λ h. Contains-dedup same-equiv same-exact ys place (Contains-permutation xs ys place moved h),
)
