-- How rows and their places change with a draft.
use Rattle.std.proofs.Common.{◌≡◌, ◌<◌, ℕ, Bool, true, false, cond, List, [], ◌∷◌, ◌++◌, length, Option, Some, None, refl, sym, ap, ◌∙◌, arith, length-append}
use Rattle.std.specs.Prelude.{slice_index_or}
use Rattle.std.specs.declared.cmp.Ordering.{Ordering}
use Rattle.std.specs.Cmp.{IsTotalOrder, then_total, on_total, nat_cmp_total}
use Rattle.std.specs.List.Sorted.{IsStrictlySortedBy}
use Rattle.std.specs.Map.{keys_of}
use Rattle.std.specs.BTreeMap.{is_at, insert_entry}
use Rattle.std.proofs.Math.ListN.{get_or-append}
use Rattle.std.proofs.Math.Seq.{get_or-append_seam}
use Rattle.merge_table.specs.declared.edit.Edit.{Edit}
use Rattle.merge_table.specs.declared.edit.Edit.TheVariants.{Take}
use Rattle.merge_table.specs.Edits.{key_of, row_of, rows_after, rows_after_all}
use Rattle.merge_table.proofs.LookUps.{lookup-rows_after, lookup-insert_entry}
use Rattle.merge_types.specs.declared.row_key.RowKey.{RowKey}
use Rattle.merge_part.specs.declared.content.Content.{Content}
use Rattle.merge_types.specs.RowKeys.{key_cmp}
use Rattle.merge_part.specs.Draft.{found, rows_in, edit_to}
use Rattle.merge_part.specs.Places.{ArePlaces}
use Rattle.merge_table.proofs.Sorted.{sorted_after_all}

pub key_total : IsTotalOrder key_cmp
key_total = then_total (on_total (λ (k : RowKey). k.article) nat_cmp_total) (on_total (λ (k : RowKey). k.row.0) nat_cmp_total)

pub key_of-edit_to : (key : RowKey) (content : Option Content) → key_of (edit_to key content) ≡ key
key_of-edit_to key None = refl
key_of-edit_to key (Some content) = refl

pub row_of-edit_to : (key : RowKey) (content : Option Content) → row_of (edit_to key content) ≡ content
row_of-edit_to key None = refl
row_of-edit_to key (Some content) = refl

pub rows_after_all-push : {K V : Type 0} (cmp : K → K → Ordering) (rows : List (K × V)) (edits : List (Edit K V)) (edit : Edit K V)
    → rows_after_all cmp rows (edits ++ edit ∷ []) ≡ rows_after cmp (rows_after_all cmp rows edits) edit
rows_after_all-push cmp rows [] edit = refl
rows_after_all-push cmp rows (first ∷ edits) edit = rows_after_all-push cmp (rows_after cmp rows first) edits edit

-- what a row holds after one change more
pub rows_in-push : (held : List (RowKey × Content)) → IsStrictlySortedBy key_cmp (keys_of held) → (edits : List (Edit RowKey Content)) (key : RowKey) (content : Option Content) (q : RowKey)
    → rows_in held (edits ++ edit_to key content ∷ []) q ≡ cond (is_at (key_cmp q) key) content (rows_in held edits q)
rows_in-push held sorted edits key content q =
    ap (λ rows. found rows q) (rows_after_all-push key_cmp held edits (edit_to key content))
    ∙ lookup-rows_after key_cmp key_total q (rows_after_all key_cmp held edits) (edit_to key content) (sorted_after_all key_cmp key_total held edits sorted)
    ∙ ap (λ k. cond (is_at (key_cmp q) k) (row_of (edit_to key content)) (rows_in held edits q)) (key_of-edit_to key content)
    ∙ ap (λ row. cond (is_at (key_cmp q) key) row (rows_in held edits q)) (row_of-edit_to key content)

module _ (edits : List (Edit RowKey Content)) (places : List (RowKey × ℕ)) (key : RowKey) (content : Option Content) (were : ArePlaces edits places) where
  pushed_within : (q : RowKey) (place : ℕ) (b : Bool) → is_at (key_cmp q) key ≡ b → cond b (Some (length edits)) (found places q) ≡ Some place → place < length (edits ++ edit_to key content ∷ [])
  pushed_within q place true is h = let same : length edits ≡ place = cc in omega (arith, length-append edits (edit_to key content ∷ []))
  pushed_within q place false is h = omega (arith, length-append edits (edit_to key content ∷ []), were.within q place h)

  pushed_changed : (held : List (RowKey × Content)) → IsStrictlySortedBy key_cmp (keys_of held) → (q : RowKey) (place : ℕ) (b : Bool) → is_at (key_cmp q) key ≡ b → cond b (Some (length edits)) (found places q) ≡ Some place
      → cond b content (rows_in held edits q) ≡ row_of (slice_index_or (edits ++ edit_to key content ∷ []) place (Take q))
  pushed_changed held sorted q place true is h =
      let same : length edits ≡ place = cc in
      sym (ap (λ n. row_of (slice_index_or (edits ++ edit_to key content ∷ []) n (Take q))) (sym same) ∙ ap row_of (get_or-append_seam edits (edit_to key content) [] (Take q)) ∙ row_of-edit_to key content)
  pushed_changed held sorted q place false is h =
      let within : place < length edits = were.within q place h in
      were.changed held sorted q place h ∙ ap row_of (sym (get_or-append edits (edit_to key content ∷ []) (Take q) place within))

  pushed_same : (held : List (RowKey × Content)) → IsStrictlySortedBy key_cmp (keys_of held) → (q : RowKey) (b : Bool) → is_at (key_cmp q) key ≡ b → cond b (Some (length edits)) (found places q) ≡ None
      → cond b content (rows_in held edits q) ≡ found held q
  pushed_same held sorted q true is h = absurd cc
  pushed_same held sorted q false is h = were.same held sorted q h

  -- a change behind the others has its place
  pub places_pushed : ArePlaces (edits ++ edit_to key content ∷ []) (insert_entry key_cmp places key (length edits))
  places_pushed =
      let place_of = λ (q : RowKey). lookup-insert_entry key_cmp key_total key q (length edits) places in
      record {
        within = λ q place h. pushed_within q place (is_at (key_cmp q) key) refl (sym (place_of q) ∙ h);
        changed = λ held sorted q place h. rows_in-push held sorted edits key content q ∙ pushed_changed held sorted q place (is_at (key_cmp q) key) refl (sym (place_of q) ∙ h);
        same = λ held sorted q h. rows_in-push held sorted edits key content q ∙ pushed_same held sorted q (is_at (key_cmp q) key) refl (sym (place_of q) ∙ h);
      }
