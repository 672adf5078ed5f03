-- Rows stay in the order of their keys through changes.
use Rattle.std.proofs.Common.{◌≡◌, true, false, Bool, cond, List, [], ◌∷◌, refl, ap, ◌∙◌}
use Rattle.std.specs.declared.cmp.Ordering.{Ordering}
use Rattle.std.specs.declared.cmp.Ordering.TheVariants.{Less, Equal, Greater}
use Rattle.std.specs.Ordering.{match_ordering, ordering_reverse}
use Rattle.std.specs.Cmp.{IsTotalOrder}
use Rattle.std.specs.List.Sorted.{IsStrictlySortedBy}
use Rattle.std.specs.Map.{keys_of, remove_entry}
use Rattle.std.specs.BTreeMap.{is_at, insert_entry}
use Rattle.merge_table.specs.declared.edit.Edit.{Edit}
use Rattle.merge_table.specs.declared.edit.Edit.TheVariants.{Put, Take}
use Rattle.merge_table.specs.Edits.{rows_after, rows_after_all}
use Rattle.merge_table.proofs.Room.{AreAbove, all_above}

module _ {K V : Type 0} (cmp : K → K → Ordering) (o : IsTotalOrder cmp) where
  above_insert : (a k : K) (v : V) (es : List (K × V)) → cmp a k ≡ Less → AreAbove cmp a (keys_of es) → AreAbove cmp a (keys_of (insert_entry cmp es k v))
  above_insert a k v [] less above = (less, tt)
  above_insert a k v ((b, x) ∷ es) less above =
      elim (cmp k b) as (λ r. AreAbove cmp a (keys_of (match_ordering r ((k, v) ∷ (b, x) ∷ es) ((b, v) ∷ es) ((b, x) ∷ insert_entry cmp es k v)))) [
        | Less ↦ (less, above)
        | Equal ↦ above
        | Greater ↦ (above.0, above_insert a k v es less above.1)
      ]

  above_remove : (test : K → Bool) (a : K) (es : List (K × V)) → AreAbove cmp a (keys_of es) → AreAbove cmp a (keys_of (remove_entry test es))
  above_remove test a [] above = tt
  above_remove test a ((b, x) ∷ es) above = elim (test b) as (λ t. AreAbove cmp a (keys_of (cond t es ((b, x) ∷ remove_entry test es)))) [ true ↦ above.1 | false ↦ (above.0, above_remove test a es above.1) ]

  insert_step : (k b : K) (v x : V) (es : List (K × V)) → IsStrictlySortedBy cmp (keys_of ((b, x) ∷ es)) → IsStrictlySortedBy cmp (keys_of (insert_entry cmp es k v))
      → (r : Ordering) → cmp k b ≡ r → IsStrictlySortedBy cmp (keys_of (match_ordering r ((k, v) ∷ (b, x) ∷ es) ((b, v) ∷ es) ((b, x) ∷ insert_entry cmp es k v)))
  unfolding IsStrictlySortedBy
  insert_step k b v x es sorted rest Less is = (all_above cmp o k b (keys_of es) sorted is, sorted)
  insert_step k b v x es sorted rest Equal is = sorted
  insert_step k b v x es sorted rest Greater is = (above_insert b k v es (o.antisymm b k ∙ ap ordering_reverse is) sorted.0, rest)

  -- a row that is put, and one that is taken, leaves the rows in order
  pub sorted_put : (k : K) (v : V) (es : List (K × V)) → IsStrictlySortedBy cmp (keys_of es) → IsStrictlySortedBy cmp (keys_of (insert_entry cmp es k v))
  unfolding IsStrictlySortedBy
  sorted_put k v [] sorted = (tt, tt)
  sorted_put k v ((b, x) ∷ es) sorted = insert_step k b v x es sorted (sorted_put k v es sorted.1) (cmp k b) refl

  pub sorted_take : (test : K → Bool) (es : List (K × V)) → IsStrictlySortedBy cmp (keys_of es) → IsStrictlySortedBy cmp (keys_of (remove_entry test es))
  unfolding IsStrictlySortedBy
  sorted_take test [] sorted = tt
  sorted_take test ((b, x) ∷ es) sorted =
      elim (test b) as (λ t. IsStrictlySortedBy cmp (keys_of (cond t es ((b, x) ∷ remove_entry test es)))) [ true ↦ sorted.1 | false ↦ (above_remove test b es sorted.0, sorted_take test es sorted.1) ]

  -- so do changes
  pub sorted_after : (rows : List (K × V)) (edit : Edit K V) → IsStrictlySortedBy cmp (keys_of rows) → IsStrictlySortedBy cmp (keys_of (rows_after cmp rows edit))
  sorted_after rows (Put key row) sorted = sorted_put key row rows sorted
  sorted_after rows (Take key) sorted = sorted_take (is_at (cmp key)) rows sorted

  pub sorted_after_all : (rows : List (K × V)) (edits : List (Edit K V)) → IsStrictlySortedBy cmp (keys_of rows) → IsStrictlySortedBy cmp (keys_of (rows_after_all cmp rows edits))
  sorted_after_all rows [] sorted = sorted
  sorted_after_all rows (edit ∷ edits) sorted = sorted_after_all (rows_after cmp rows edit) edits (sorted_after rows edit sorted)
