-- The set of a table's keys.
use Rattle.std.proofs.Common.{◌≡◌, ◌+◌, length, add-one, true, false, Bool, ◌||◌, ◌&&◌, not, List, [], ◌∷◌, Option, None, is_some, cond, refl, sym, ap, ◌∙◌}
use Rattle.std.specs.FinSet as set
use Rattle.std.specs.declared.cmp.Ordering.{Ordering}
use Rattle.std.specs.declared.cmp.Ordering.TheVariants.{Less, Equal, Greater}
use Rattle.std.specs.Ordering.{eq_by_cmp, is_eq, match_ordering, ordering_reverse}
use Rattle.std.specs.Cmp.{IsTotalOrder, Equal-is, eq_by_cmp_equiv}
use Rattle.std.specs.List.{list_any}
use Rattle.std.specs.List.Sorted.{IsStrictlySortedBy}
use Rattle.std.specs.Map.{keys_of, lookup, remove_entry}
use Rattle.std.specs.Set.{remove_key}
use Rattle.std.specs.BTreeMap.{is_at, insert_entry}
use Rattle.std.specs.BTreeSet.{insert_key}
use Rattle.std.proofs.lemmas.Map.{lookup-remove_entry}
use Rattle.std.proofs.lemmas.Map.Keys.{IsDistinct-from_sorted}
use Rattle.std.proofs.lemmas.Map.Made.{is_some-lookup}
use Rattle.merge_table.proofs.Room.{has_room-insert_key, no_room_above}
use Rattle.merge_table.proofs.Slots.{keys-insert_entry, keys-remove_entry}

module _ {K : Type 0} (cmp : K → K → Ordering) (o : IsTotalOrder cmp) where
  none_taken : {V : Type 0} (b : Bool) (found : Option V) → is_some (cond b None found) ≡ (not b && is_some found)
  none_taken true found = refl
  none_taken false found = refl

  -- which keys the set has after a key was taken
  contains_taken : {V : Type 0} (k q : K) (es : List (K × V)) → IsStrictlySortedBy cmp (keys_of es)
      → list_any (eq_by_cmp cmp q) (keys_of (remove_entry (is_at (cmp k)) es)) ≡ (not (eq_by_cmp cmp q k) && list_any (eq_by_cmp cmp q) (keys_of es))
  contains_taken k q es sorted =
      let same_test : (x y : K) → is_at (cmp k) x ≡ true → is_at (cmp k) y ≡ eq_by_cmp cmp x y = λ x y passes. ap is_eq (o.congr k x y ((Equal-is (cmp k x)).0 passes)) in
      sym (is_some-lookup (eq_by_cmp cmp q) (remove_entry (is_at (cmp k)) es))
      ∙ ap is_some (lookup-remove_entry (eq_by_cmp_equiv o) (is_at (cmp k)) same_test q es (IsDistinct-from_sorted cmp (keys_of es) sorted))
      ∙ none_taken (is_at (cmp k) q) (lookup (eq_by_cmp cmp q) es)
      ∙ ap (λ b. not b && is_some (lookup (eq_by_cmp cmp q) es)) ((eq_by_cmp_equiv o).symm k q)
      ∙ ap (λ b. not (eq_by_cmp cmp q k) && b) (is_some-lookup (eq_by_cmp cmp q) es)

  -- keys in order are as many as their set has
  pub len-sorted : (ks : List K) → IsStrictlySortedBy cmp ks → set.len (set.from_list {R = cmp} ks) ≡ length ks
  unfolding IsStrictlySortedBy
  len-sorted [] sorted = set.len-empty cmp
  len-sorted (k ∷ ks) sorted =
      set.len-insert o (set.from_list {R = cmp} ks) k
      ∙ ap (λ b. cond b (set.len (set.from_list {R = cmp} ks)) (set.len (set.from_list {R = cmp} ks) + 1)) (set.contains-from_list o ks k ∙ no_room_above cmp k ks sorted.0)
      ∙ ap (λ n. n + 1) (len-sorted ks sorted.1)
      ∙ add-one (length ks)

  module _ (exact : (x y : K) → cmp x y ≡ Equal → x ≡ y) where
    -- a row that is put adds its key to the set, and one that is taken removes it
    pub set_put : {V : Type 0} (k : K) (v : V) (es : List (K × V)) → set.from_list {R = cmp} (keys_of (insert_entry cmp es k v)) ≡ set.insert (set.from_list {R = cmp} (keys_of es)) k
    set_put k v es =
        set.same_set o exact _ _ (λ q.
        set.contains-from_list o (keys_of (insert_entry cmp es k v)) q
        ∙ ap (list_any (eq_by_cmp cmp q)) (keys-insert_entry cmp k v es)
        ∙ has_room-insert_key cmp o k q (keys_of es)
        ∙ ap (λ b. eq_by_cmp cmp q k || b) (sym (set.contains-from_list o (keys_of es) q))
        ∙ sym (set.contains-insert o (set.from_list {R = cmp} (keys_of es)) k q))

    pub set_take : {V : Type 0} (k : K) (es : List (K × V)) → IsStrictlySortedBy cmp (keys_of es)
        → set.from_list {R = cmp} (keys_of (remove_entry (is_at (cmp k)) es)) ≡ set.remove (set.from_list {R = cmp} (keys_of es)) k
    set_take k es sorted =
        set.same_set o exact _ _ (λ q.
        set.contains-from_list o (keys_of (remove_entry (is_at (cmp k)) es)) q
        ∙ contains_taken k q es sorted
        ∙ ap (λ b. not (eq_by_cmp cmp q k) && b) (sym (set.contains-from_list o (keys_of es) q))
        ∙ sym (set.contains-remove o (set.from_list {R = cmp} (keys_of es)) k q))
