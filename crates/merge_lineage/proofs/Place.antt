-- What a search for a site finds, and what an edit at that place makes.
use Rattle.std.proofs.Common.{◌≡◌, ℕ, zero, suc, ◌+◌, ◌<◌, ◌≤◌, List, [], ◌∷◌, length, get_or, set, max, Some, None, Result, Ok, Err, IfOk, IfErr, refl, sym, ap, arith}
use Rattle.std.specs.List.{insert}
use Rattle.std.specs.List.Sorted.{IsSearchInRange, IsBinarySearchResult, IsNonDecreasingBy}
use Rattle.std.specs.Ordering.{nat_cmp, ordering_index}
use Rattle.std.proofs.lemmas.Cmp.{ranked}
use Rattle.std.proofs.lemmas.List.Sorted.{IsNonDecreasingBy-from_default}
use Rattle.std.proofs.lemmas.Bool.Decides.{nat_tests}
use Rattle.merge_types.specs.declared.Dot.{Dot}
use Rattle.merge_lineage.specs.Lineage.{IsAscending, no_dot, site_at, number_at, with_dot, IsAt, IsGapFor}
use Rattle.merge_lineage.proofs.Rising.{RisesFrom, rises_at, rises_from_ascending}

module _ (l : List Dot) (ascending : IsAscending l) (site : ℕ) where
  -- the comparisons with a site rise along the list, as a binary search asks
  comparisons_rise : IsNonDecreasingBy (λ (dot : Dot). ordering_index (nat_cmp dot.site.0 site)) l
  comparisons_rise = IsNonDecreasingBy-from_default (λ (dot : Dot). ordering_index (nat_cmp dot.site.0 site)) l no_dot (λ i j le in_range.
      let sites_rise : site_at l i ≤ site_at l j = grind (arith, ascending i j no_dot, λ (same : i ≡ j). ap (site_at l) same) in
      grind (arith, nat_tests))

  -- a binary search by site ends at the site's dot, or at the gap for it
  pub searched : (r : Result ℕ ℕ) → IsSearchInRange r (length l) → IsBinarySearchResult (λ (dot : Dot). nat_cmp dot.site.0 site) l r → record { found : IfOk r (IsAt l site); absent : IfErr r (IsGapFor l site) }
  searched (Ok at) in_range equal = record { found = record { in_range = in_range; has_site = ranked _ site _ (sym (equal no_dot)) }; absent = tt }
  searched (Err at) in_range parted = record {
    found = tt;
    absent = record {
      in_range = in_range;
      smaller_before = λ j lt. ranked _ site _ (sym ((parted comparisons_rise).0 j no_dot (omega arith) lt));
      greater_after = λ j le lt. ranked _ site _ (sym ((parted comparisons_rise).1 j no_dot le lt));
    };
  }

-- in the tail, a dot is one place lower, and so is a gap
is_at_tail : (x : Dot) (xs : List Dot) (site i : ℕ) → IsAt (x ∷ xs) site (suc i) → IsAt xs site i
is_at_tail x xs site i is_at = record { in_range = omega (arith, is_at.in_range); has_site = is_at.has_site }

gap_tail : (x : Dot) (xs : List Dot) (site i : ℕ) → IsGapFor (x ∷ xs) site (suc i) → IsGapFor xs site i
gap_tail x xs site i gap = record {
  in_range = omega (arith, gap.in_range);
  smaller_before = λ j lt. gap.smaller_before (suc j) (omega arith);
  greater_after = λ j le lt. gap.greater_after (suc j) (omega arith) (omega arith);
}

-- the dot at a place behind the first has a greater site
first_below : (low : ℕ) (x : Dot) (xs : List Dot) → RisesFrom low (x ∷ xs) → (site i : ℕ) → IsAt (x ∷ xs) site (suc i) → x.site.0 < site
first_below low x xs rises site i is_at = omega (arith, rises_at (x.site.0 + 1) xs rises.1 i no_dot (omega (arith, is_at.in_range)), is_at.has_site)

number_there : (low : ℕ) (l : List Dot) → RisesFrom low l → (site i : ℕ) → IsAt l site i → number_at l site ≡ Some (get_or l i no_dot).number
number_there low [] rises site i is_at = absurd (omega (arith, is_at.in_range))
number_there low (x ∷ xs) rises site zero is_at = grind (arith, nat_tests, is_at.has_site)
number_there low (x ∷ xs) rises site (suc i) is_at = grind (arith, nat_tests, first_below low x xs rises site i is_at, number_there (x.site.0 + 1) xs rises.1 site i (is_at_tail x xs site i is_at))

pub number-at_place : (l : List Dot) → IsAscending l → (site i : ℕ) → IsAt l site i → number_at l site ≡ Some (get_or l i no_dot).number
number-at_place l ascending = number_there 0 l (rises_from_ascending l ascending)

pub number-in_gap : (l : List Dot) (site i : ℕ) → IsGapFor l site i → number_at l site ≡ None
number-in_gap [] site i gap = refl
number-in_gap (x ∷ xs) site zero gap = grind (
  arith,
  nat_tests,
  gap.greater_after 0,
  number-in_gap xs site zero (record {
    in_range = omega arith;
    smaller_before = λ j lt. absurd (omega arith);
    greater_after = λ j le lt. gap.greater_after (suc j) (omega arith) (omega arith);
  }),
)
number-in_gap (x ∷ xs) site (suc i) gap = grind (arith, nat_tests, gap.smaller_before 0, number-in_gap xs site i (gap_tail x xs site i gap))

-- the greater number, written over the site's dot
with_dot_there : (low : ℕ) (l : List Dot) → RisesFrom low l → (d : Dot) (i : ℕ) → IsAt l d.site.0 i → (h : Dot) → h.site.0 ≡ d.site.0 → h.number ≡ max (get_or l i no_dot).number d.number → set l i h ≡ with_dot d l
with_dot_there low [] rises d i is_at h same is_max = absurd (omega (arith, is_at.in_range))
with_dot_there low (x ∷ xs) rises d zero is_at h same is_max =
    let one : h ≡ record { site = x.site; number = max x.number d.number } = grind (arith, is_at.has_site) in
    grind (arith, nat_tests, is_at.has_site)
with_dot_there low (x ∷ xs) rises d (suc i) is_at h same is_max =
    grind (arith, nat_tests, first_below low x xs rises d.site.0 i is_at, with_dot_there (x.site.0 + 1) xs rises.1 d i (is_at_tail x xs d.site.0 i is_at) h same is_max)

pub with_dot-at_place : (l : List Dot) → IsAscending l → (d : Dot) (i : ℕ) → IsAt l d.site.0 i → (h : Dot) → h.site.0 ≡ d.site.0 → h.number ≡ max (get_or l i no_dot).number d.number → set l i h ≡ with_dot d l
with_dot-at_place l ascending = with_dot_there 0 l (rises_from_ascending l ascending)

-- the dot, put into the gap for it
pub with_dot-in_gap : (l : List Dot) (d : Dot) (i : ℕ) → IsGapFor l d.site.0 i → insert l i d ≡ with_dot d l
with_dot-in_gap [] d zero gap = refl
with_dot-in_gap [] d (suc i) gap = absurd (omega (arith, gap.in_range))
with_dot-in_gap (x ∷ xs) d zero gap = grind (arith, nat_tests, gap.greater_after 0)
with_dot-in_gap (x ∷ xs) d (suc i) gap = grind (arith, nat_tests, gap.smaller_before 0, with_dot-in_gap xs d i (gap_tail x xs d.site.0 i gap))
