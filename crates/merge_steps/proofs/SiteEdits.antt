-- Edits that put a new value at each key.
use Rattle.std.specs.Prelude.{◌≡◌, ℕ, List, [], ◌∷◌, Bool, true, false, Option, Some, None, refl, cond, map}
use Rattle.std.specs.BTreeMap.{insert_entry, is_at}
use Rattle.std.specs.Cmp.{Equal-is, IsTotalOrder, nat_cmp_total}
use Rattle.std.specs.List.Sorted.{IsStrictlySortedBy}
use Rattle.std.specs.Map.{keys_of, lookup}
use Rattle.std.specs.Ordering.{nat_cmp}
use Rattle.std.specs.declared.cmp.Ordering.{Ordering}
use Rattle.std.specs.declared.cmp.Ordering.TheVariants.{Equal}
use Rattle.std.proofs.Common.{sym, ap, ◌∙◌}
use Rattle.std.proofs.lemmas.Map.Keys.{sorted_tail}
use Rattle.std.proofs.lemmas.Map.Lookups.{exact_unsigned}
use Rattle.merge_gens.specs.declared.sites.SiteState.{SiteState}
use Rattle.merge_table.specs.declared.edit.Edit.{Edit}
use Rattle.merge_table.specs.declared.edit.Edit.TheVariants.{Put}
use Rattle.merge_table.specs.Edits.{rows_after_all}
use Rattle.merge_table.proofs.LookUps.{lookup-insert_entry, rows_from_look_ups}
use Rattle.merge_table.proofs.Room.{rest_above}
use Rattle.merge_table.proofs.Slots.{lookup_above}
use Rattle.merge_table.proofs.Sorted.{sorted_put}
use Rattle.merge_batch.specs.declared.request.Upload.{Upload}
use Rattle.merge_steps.specs.Uploading.{put_all, sites_with, state_with}
use Rattle.merge_steps.specs.declared.acting.Arrival.{Arrival}
use Rattle.merge_steps.proofs.Moved.{or_else}

module _ {K V : Type 0} (cmp : K → K → Ordering) (o : IsTotalOrder cmp) (exact : (x y : K) → cmp x y ≡ Equal → x ≡ y) where
  abbrev put_of : K × V → Edit K V
  put_of e = Put e.0 e.1

  head-put : (b : Bool) (v : V) (found other : Option V) → (b ≡ true → found ≡ None) → or_else found (let x : Option V = cond b (Some v) other in x) ≡ or_else (let x : Option V = cond b (Some v) found in x) other
  head-put true v found other none = ap (λ (x : Option V). or_else x (Some v)) (none refl)
  head-put false v found other none = refl

  found-puts : (q : K) (es rows : List (K × V)) → IsStrictlySortedBy cmp (keys_of es) → lookup (is_at (cmp q)) (rows_after_all cmp rows (map put_of es)) ≡ or_else (lookup (is_at (cmp q)) es) (lookup (is_at (cmp q)) rows)
  found-puts q [] rows sorted = refl
  found-puts q (e ∷ es) rows sorted =
      found-puts q es (insert_entry cmp rows e.0 e.1) (sorted_tail cmp e.0 (keys_of es) sorted)
      ∙ ap (λ (x : Option V). or_else (lookup (is_at (cmp q)) es) x) (lookup-insert_entry cmp o e.0 q e.1 rows)
      ∙ head-put (is_at (cmp q) e.0) e.1 (lookup (is_at (cmp q)) es) (lookup (is_at (cmp q)) rows) (λ at. lookup_above cmp q es (rest_above cmp o q e.0 (keys_of es) sorted ((Equal-is (cmp q e.0)).0 at)))

  sorted-puts : (es rows : List (K × V)) → IsStrictlySortedBy cmp (keys_of rows) → IsStrictlySortedBy cmp (keys_of (rows_after_all cmp rows (map put_of es)))
  sorted-puts [] rows sorted = sorted
  sorted-puts (e ∷ es) rows sorted = sorted-puts es (insert_entry cmp rows e.0 e.1) (sorted_put cmp o e.0 e.1 rows sorted)

  over-all : (found other : Option V) → (found ≡ None → other ≡ None) → or_else found other ≡ found
  over-all None other none = none refl
  over-all (Some v) other none = refl

  head-none : (b : Bool) (v w : V) (found other : Option V) → (found ≡ None → other ≡ None) → (let x : Option V = cond b (Some v) found in x) ≡ None → (let x : Option V = cond b (Some w) other in x) ≡ None
  head-none true v w found other none is = absurd cc
  head-none false v w found other none is = none is

  module _ (f : K × V → V) where
    abbrev new_row : K × V → K × V
    new_row e = (e.0, f e)

    none-there : (q : K) (rows : List (K × V)) → lookup (is_at (cmp q)) (map new_row rows) ≡ None → lookup (is_at (cmp q)) rows ≡ None
    none-there q [] is = refl
    none-there q (e ∷ rows) is = head-none (is_at (cmp q) e.0) (f e) e.1 (lookup (is_at (cmp q)) (map new_row rows)) (lookup (is_at (cmp q)) rows) (none-there q rows) is

    new-keys : (rows : List (K × V)) → keys_of (map new_row rows) ≡ keys_of rows
    new-keys [] = refl
    new-keys (e ∷ rows) = ap (λ (ks : List K). e.0 ∷ ks) (new-keys rows)

    -- a map by value, as edits
    pub map-edits : (rows : List (K × V)) → IsStrictlySortedBy cmp (keys_of rows) → rows_after_all cmp rows (map put_of (map new_row rows)) ≡ map new_row rows
    map-edits rows sorted =
        let new-sorted : IsStrictlySortedBy cmp (keys_of (map new_row rows)) = rw (new-keys rows) sorted in
        rows_from_look_ups cmp o exact (rows_after_all cmp rows (map put_of (map new_row rows))) (map new_row rows) (sorted-puts (map new_row rows) rows sorted) new-sorted
        (λ q. found-puts q (map new_row rows) rows new-sorted ∙ over-all (lookup (is_at (cmp q)) (map new_row rows)) (lookup (is_at (cmp q)) rows) (none-there q rows))

pub sites-edited : (arrival : Arrival) (m : Upload) (sites : List (ℕ × SiteState)) (edits : List (Edit ℕ SiteState)) → IsStrictlySortedBy nat_cmp (keys_of sites) → edits ≡ put_all (sites_with arrival m sites) → rows_after_all nat_cmp sites edits ≡ sites_with arrival m sites
sites-edited arrival m sites edits sorted are =
    ap (rows_after_all nat_cmp sites) are ∙ map-edits nat_cmp nat_cmp_total exact_unsigned (λ (e : ℕ × SiteState). state_with arrival m e.0 e.1) sites sorted
