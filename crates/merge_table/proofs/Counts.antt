-- How many slots have a row.
use Rattle.std.proofs.Common.{◌≡◌, ◌+◌, ◌-◌, ◌≤◌, ℕ, Bool, true, false, List, [], ◌∷◌, Some, None, refl, ap, ◌∙◌, length, arith}
use Rattle.std.specs.declared.option.Option.{Option}
use Rattle.std.specs.Option.{option_flatten}
use Rattle.std.specs.declared.cmp.Ordering.{Ordering}
use Rattle.std.specs.declared.cmp.Ordering.TheVariants.{Less, Equal, Greater}
use Rattle.std.specs.Cmp.{IsTotalOrder}
use Rattle.std.specs.List.Sorted.{IsStrictlySortedBy}
use Rattle.std.specs.Map.{keys_of, lookup, remove_entry}
use Rattle.std.specs.BTreeMap.{is_at, insert_entry}
use Rattle.std.proofs.lemmas.Map.Keys.{sorted_tail}
use Rattle.merge_table.specs.Contents.{rows_of, count_of}
use Rattle.merge_table.proofs.Room.{all_above}
use Rattle.merge_table.proofs.Slots.{lookup_above}

pub length-rows_slot : {K V : Type 0} (k : K) (x : Option V) (es : List (K × Option V)) → length (rows_of ((k, x) ∷ es)) ≡ length (rows_of es) + count_of x
length-rows_slot k None es = omega arith
length-rows_slot k (Some v) es = omega arith

-- there are no more rows than slots
pub length-rows_le : {K V : Type 0} (es : List (K × Option V)) → length (rows_of es) ≤ length es
length-rows_le [] = omega arith
length-rows_le ((k, None) ∷ es) = omega (arith, length-rows_le es)
length-rows_le ((k, Some v) ∷ es) = omega (arith, length-rows_le es)

insert_step : {K V : Type 0} (cmp : K → K → Ordering) → IsTotalOrder cmp → (k a : K) (w x : Option V) (es : List (K × Option V)) → IsStrictlySortedBy cmp (keys_of ((a, x) ∷ es))
    → length (rows_of (insert_entry cmp es k w)) + count_of (option_flatten (lookup (is_at (cmp k)) es)) ≡ length (rows_of es) + count_of w
    → (r : Ordering) → cmp k a ≡ r
    → length (rows_of (insert_entry cmp ((a, x) ∷ es) k w)) + count_of (option_flatten (lookup (is_at (cmp k)) ((a, x) ∷ es))) ≡ length (rows_of ((a, x) ∷ es)) + count_of w
insert_step cmp o k a w x es s ih Less e =
    let none : lookup (is_at (cmp k)) ((a, x) ∷ es) ≡ None = lookup_above cmp k ((a, x) ∷ es) (all_above cmp o k a (keys_of es) s e) in
    rw (none, e) (omega (arith, length-rows_slot k w ((a, x) ∷ es)))
insert_step cmp o k a w x es s ih Equal e = rw e (omega (arith, length-rows_slot a w es, length-rows_slot a x es))
insert_step cmp o k a w x es s ih Greater e = rw e (omega (arith, length-rows_slot a x es, length-rows_slot a x (insert_entry cmp es k w), ih))

-- a slot that is written counts by what it has now, and no more by what it had
pub length-rows_insert : {K V : Type 0} (cmp : K → K → Ordering) → IsTotalOrder cmp → (k : K) (w : Option V) (es : List (K × Option V)) → IsStrictlySortedBy cmp (keys_of es)
    → length (rows_of (insert_entry cmp es k w)) + count_of (option_flatten (lookup (is_at (cmp k)) es)) ≡ length (rows_of es) + count_of w
length-rows_insert cmp o k w [] s = omega (arith, length-rows_slot k w [])
length-rows_insert cmp o k w ((a, x) ∷ es) s = insert_step cmp o k a w x es s (length-rows_insert cmp o k w es (sorted_tail cmp a (keys_of es) s)) (cmp k a) refl

remove_step : {K V : Type 0} (test : K → Bool) (k : K) (x : Option V) (es : List (K × Option V))
    → length (rows_of (remove_entry test es)) + count_of (option_flatten (lookup test es)) ≡ length (rows_of es)
    → (b : Bool) → test k ≡ b
    → length (rows_of (remove_entry test ((k, x) ∷ es))) + count_of (option_flatten (lookup test ((k, x) ∷ es))) ≡ length (rows_of ((k, x) ∷ es))
remove_step test k None es ih true e = rw e (omega arith)
remove_step test k (Some v) es ih true e = rw e (omega arith)
remove_step test k x es ih false e = rw e (omega (arith, length-rows_slot k x es, length-rows_slot k x (remove_entry test es), ih))

-- a slot that is removed counts no more
pub length-rows_remove : {K V : Type 0} (test : K → Bool) (es : List (K × Option V))
    → length (rows_of (remove_entry test es)) + count_of (option_flatten (lookup test es)) ≡ length (rows_of es)
length-rows_remove test [] = refl
length-rows_remove test ((k, x) ∷ es) = remove_step test k x es (length-rows_remove test es) (test k) refl

-- of a count of rows, those that a slot had may be taken away
pub taken_le : {K V : Type 0} (test : K → Bool) (es : List (K × Option V)) (held taken : ℕ) (old : Option V)
    → held ≡ length (rows_of es) → old ≡ option_flatten (lookup test es) → taken ≡ count_of old → taken ≤ held
taken_le test es held taken old counted is one = omega (arith, length-rows_remove test es, counted, one ∙ ap count_of is)

-- and what is left counts the rows without that slot
pub count-taken : {K V : Type 0} (test : K → Bool) (es : List (K × Option V)) (held taken : ℕ) (old : Option V)
    → held ≡ length (rows_of es) → old ≡ option_flatten (lookup test es) → taken ≡ count_of old → held - taken ≡ length (rows_of (remove_entry test es))
count-taken test es held taken old counted is one = omega (arith, length-rows_remove test es, counted, one ∙ ap count_of is)

-- one more, less those that the slot had, counts the rows with the one that was put there
pub count-put : {K V : Type 0} (cmp : K → K → Ordering) → IsTotalOrder cmp → (k : K) (row : V) (es : List (K × Option V)) (held taken : ℕ) (old : Option V) → IsStrictlySortedBy cmp (keys_of es)
    → held ≡ length (rows_of es) → old ≡ option_flatten (lookup (is_at (cmp k)) es) → taken ≡ count_of old → held + 1 - taken ≡ length (rows_of (insert_entry cmp es k (Some row)))
count-put cmp o k row es held taken old s counted is one = omega (arith, length-rows_insert cmp o k (Some row) es s, counted, one ∙ ap count_of is)
