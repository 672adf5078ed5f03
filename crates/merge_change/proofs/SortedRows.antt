-- Rows that stand in the order of their keys, put one after the other.
use Rattle.std.specs.Prelude.{◌≡◌, ◌++◌, List, ◌∷◌, [], map}
use Rattle.std.specs.BTreeMap.{insert_entry}
use Rattle.std.specs.Cmp.{IsTotalOrder}
use Rattle.std.specs.List.Sorted.{IsStrictlySortedBy}
use Rattle.std.specs.Map.{keys_of}
use Rattle.std.specs.declared.cmp.Ordering.{Ordering}
use Rattle.std.proofs.Common.{ap, sym, ◌∙◌}
use Rattle.std.proofs.lemmas.List.{append-nil, append_assoc}
use Rattle.merge_table.specs.Edits.{rows_after_all}
use Rattle.merge_table.specs.declared.edit.Edit.{Edit}
use Rattle.merge_table.specs.declared.edit.Edit.TheVariants.{Put}
use Rattle.merge_table.proofs.Takes.{insert_last}

abbrev pub put_of : {K V : Type 0} → K × V → Edit K V
put_of row = Put row.0 row.1

-- what was put and what is left are all
pub put-next : {K V : Type 0} (cmp : K → K → Ordering) → IsTotalOrder cmp → (all done rest left : List (K × V)) (key : K) (row : V) → IsStrictlySortedBy cmp (keys_of all) → rest ≡ (key, row) ∷ left → done ++ rest ≡ all
    → (made : List (K × V)) → made ≡ insert_entry cmp done key row → made ++ left ≡ all
put-next cmp total all done rest left key row sorted next so_far made is =
    let whole : done ++ (key, row) ∷ left ≡ all = rw next at so_far in
    let last : insert_entry cmp done key row ≡ done ++ (key, row) ∷ [] = insert_last cmp total done key row left (rw whole sorted) in
    rw (is, last) (append_assoc done ((key, row) ∷ []) left ∙ whole)

-- one after the other they make the list
pub puts-made : {K V : Type 0} (cmp : K → K → Ordering) → IsTotalOrder cmp → (done rest : List (K × V)) → IsStrictlySortedBy cmp (keys_of (done ++ rest)) → rows_after_all cmp done (map put_of rest) ≡ done ++ rest
puts-made cmp total done [] sorted = sym (append-nil done)
puts-made {K} {V} cmp total done (row ∷ rest) sorted =
    let last : insert_entry cmp done row.0 row.1 ≡ done ++ row ∷ [] = insert_last cmp total done row.0 row.1 rest sorted in
    let whole : (done ++ row ∷ []) ++ rest ≡ done ++ row ∷ rest = append_assoc done (row ∷ []) rest in
    ap (λ (rows : List (K × V)). rows_after_all cmp rows (map put_of rest)) last
    ∙ puts-made cmp total (done ++ row ∷ []) rest (rw whole sorted)
    ∙ whole
