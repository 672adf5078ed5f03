-- What the rows of a table give, found at keys among which are all whose row gives anything.
use Rattle.std.specs.Prelude.{◌≡◌, List, [], ◌∷◌, Bool, true, false, Option, Some, None, refl, cond, filter_map, is_some}
use Rattle.std.specs.BTreeMap.{is_at}
use Rattle.std.specs.Cmp.{IsTotalOrder}
use Rattle.std.specs.List.{AllByRecursion, cons_option, list_any}
use Rattle.std.specs.List.Sorted.{IsStrictlySortedBy}
use Rattle.std.specs.Map.{keys_of, lookup}
use Rattle.std.specs.Ordering.{is_eq, ordering_reverse}
use Rattle.std.specs.declared.cmp.Ordering.{Ordering}
use Rattle.std.specs.declared.cmp.Ordering.TheVariants.{Equal, Less}
use Rattle.std.proofs.Common.{sym, ap, ◌∙◌}
use Rattle.std.proofs.lemmas.Cmp.{tied_itself}
use Rattle.std.proofs.lemmas.Map.Made.{is_some-lookup}
use Rattle.merge_table.proofs.Given.{same-given}
use Rattle.merge_steps.specs.Given.{given_by}

module _ {K V Y : Type 0} (cmp : K → K → Ordering) (o : IsTotalOrder cmp) (exact : (x y : K) → cmp x y ≡ Equal → x ≡ y) (give : K × V → Option Y) where
  abbrev found_in : List (K × V) → K → Option V
  found_in rows k = lookup (is_at (cmp k)) rows

  not-at : (a k : K) → cmp a k ≡ Less → is_at (cmp k) a ≡ false
  not-at a k less = ap is_eq (o.antisymm k a ∙ ap ordering_reverse less)

  -- what is found at the keys of the rest is found in the rest
  rest-found : (e : K × V) (all rest : List (K × V)) (ks : List K) → AllByRecursion (λ (k : K). cmp e.0 k ≡ Less) ks → AllByRecursion (λ (k : K). found_in all k ≡ found_in (e ∷ rest) k) ks → AllByRecursion (λ (k : K). found_in all k ≡ found_in rest k) ks
  rest-found e all rest [] above same = tt
  rest-found e all rest (k ∷ ks) above same =
      (same.0 ∙ ap (λ (b : Bool). (let found : Option V = cond b (Some e.1) (found_in rest k) in found)) (not-at e.0 k above.0), rest-found e all rest ks above.1 same.1)

  own : (all rows : List (K × V)) → IsStrictlySortedBy cmp (keys_of rows) → AllByRecursion (λ (k : K). found_in all k ≡ found_in rows k) (keys_of rows) → filter_map (λ (k : K). given_by give k (found_in all k)) (keys_of rows) ≡ filter_map give rows
  unfolding IsStrictlySortedBy
  own all [] sorted same = refl
  own all (e ∷ rows) sorted same =
      ap (λ (found : Option V). cons_option (given_by give e.0 found) (filter_map (λ (k : K). given_by give k (found_in all k)) (keys_of rows)))
      (same.0 ∙ ap (λ (b : Bool). (let found : Option V = cond b (Some e.1) (found_in rows e.0) in found)) (ap is_eq (tied_itself o e.0)))
      ∙ ap (λ (ys : List Y). cons_option (give e) ys) (own all rows sorted.1 (rest-found e all rows (keys_of rows) sorted.0 same.1))

  all-same : (all : List (K × V)) (ks : List K) → AllByRecursion (λ (k : K). found_in all k ≡ found_in all k) ks
  all-same all [] = tt
  all-same all (k ∷ ks) = (refl, all-same all ks)

  some-there : (rows : List (K × V)) (ks : List K) (k : K) (found : Option V) → found_in rows k ≡ found → is_some (given_by give k found) ≡ true
      → ((v : V) → found_in rows k ≡ Some v → is_some (give (k, v)) ≡ true → list_any (is_at (cmp k)) ks ≡ true) → list_any (is_at (cmp k)) (keys_of rows) ≡ list_any (is_at (cmp k)) ks
  some-there rows ks k None is some has = absurd cc
  some-there rows ks k (Some v) is some has =
      sym (is_some-lookup (is_at (cmp k)) rows) ∙ ap (λ (found : Option V). is_some found) is ∙ sym (has v is some)

  pub rows-given : (rows : List (K × V)) (ks : List K) → IsStrictlySortedBy cmp (keys_of rows) → IsStrictlySortedBy cmp ks
      → ((k : K) (v : V) → lookup (is_at (cmp k)) rows ≡ Some v → is_some (give (k, v)) ≡ true → list_any (is_at (cmp k)) ks ≡ true)
      → filter_map (λ (k : K). given_by give k (lookup (is_at (cmp k)) rows)) ks ≡ filter_map give rows
  rows-given rows ks sorted ascend has =
      sym (same-given cmp o exact (λ (k : K). given_by give k (found_in rows k)) (keys_of rows) ks sorted ascend
      (λ k some. some-there rows ks k (found_in rows k) refl some (has k)))
      ∙ own rows rows sorted (all-same rows (keys_of rows))
