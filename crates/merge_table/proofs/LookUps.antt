-- Rows in the order of their keys, and what look-ups find in them.
use Rattle.std.proofs.Common.{◌≡◌, Bool, true, false, List, [], ◌∷◌, Some, None, refl, sym, ap, ◌∙◌}
use Rattle.std.specs.Prelude.{cond}
use Rattle.std.specs.declared.option.Option.{Option}
use Rattle.std.specs.declared.cmp.Ordering.{Ordering}
use Rattle.std.specs.declared.cmp.Ordering.TheVariants.{Less, Equal, Greater}
use Rattle.std.specs.Ordering.{is_eq, ordering_reverse}
use Rattle.std.specs.Cmp.{IsTotalOrder}
use Rattle.std.specs.List.Sorted.{IsStrictlySortedBy}
use Rattle.std.specs.Map.{keys_of, lookup, remove_entry}
use Rattle.std.specs.BTreeMap.{is_at, insert_entry}
use Rattle.std.proofs.lemmas.Cmp.{tied_itself}
use Rattle.std.proofs.lemmas.Map.Keys.{sorted_tail}
use Rattle.merge_table.specs.declared.edit.Edit.{Edit}
use Rattle.merge_table.specs.declared.edit.Edit.TheVariants.{Put, Take}
use Rattle.merge_table.specs.Edits.{rows_after, key_of, row_of}
use Rattle.merge_table.proofs.Room.{cmp_tied, all_above, rest_above}
use Rattle.merge_table.proofs.Slots.{lookup_above}

is_equal : (r : Ordering) → is_eq r ≡ true → r ≡ Equal
is_equal Less h = absurd cc
is_equal Equal h = refl
is_equal Greater h = absurd cc

-- a key that is equal to two makes them equal
pub tied_through : {K : Type 0} (cmp : K → K → Ordering) → IsTotalOrder cmp → (q k a : K) → is_at (cmp q) k ≡ true → is_at (cmp q) a ≡ true → cmp k a ≡ Equal
tied_through cmp o q k a hk ha = sym (o.congr q k a (is_equal _ hk)) ∙ is_equal _ ha

insert_greater : {K X : Type 0} (cmp : K → K → Ordering) → IsTotalOrder cmp → (k q a : K) (v x : X) (rest : Option X) → cmp k a ≡ Greater
    → (b c : Bool) → is_at (cmp q) k ≡ b → is_at (cmp q) a ≡ c
    → cond c (Some x) (cond b (Some v) rest) ≡ cond b (Some v) (cond c (Some x) rest)
insert_greater cmp o k q a v x rest e true true hb hc = let no : Greater ≡ Equal = sym e ∙ tied_through cmp o q k a hb hc in absurd cc
insert_greater cmp o k q a v x rest e true false hb hc = refl
insert_greater cmp o k q a v x rest e false c hb hc = refl

insert_equal : {X : Type 0} (v x : X) (rest : Option X) (b : Bool) → cond b (Some v) rest ≡ cond b (Some v) (cond b (Some x) rest)
insert_equal v x rest true = refl
insert_equal v x rest false = refl

insert_step : {K X : Type 0} (cmp : K → K → Ordering) → IsTotalOrder cmp → (k q a : K) (v x : X) (rows : List (K × X))
    → lookup (is_at (cmp q)) (insert_entry cmp rows k v) ≡ cond (is_at (cmp q) k) (Some v) (lookup (is_at (cmp q)) rows)
    → (r : Ordering) → cmp k a ≡ r
    → lookup (is_at (cmp q)) (insert_entry cmp ((a, x) ∷ rows) k v) ≡ cond (is_at (cmp q) k) (Some v) (lookup (is_at (cmp q)) ((a, x) ∷ rows))
insert_step cmp o k q a v x rows ih Less e = rw e refl
insert_step cmp o k q a v x rows ih Equal e = rw (e, cmp_tied cmp o q k a e) (insert_equal v x (lookup (is_at (cmp q)) rows) (is_at (cmp q) k))
insert_step cmp o k q a v x rows ih Greater e = rw (e, ih) (insert_greater cmp o k q a v x (lookup (is_at (cmp q)) rows) e (is_at (cmp q) k) (is_at (cmp q) a) refl refl)

-- what is found after an insertion
pub lookup-insert_entry : {K X : Type 0} (cmp : K → K → Ordering) → IsTotalOrder cmp → (k q : K) (v : X) (rows : List (K × X))
    → lookup (is_at (cmp q)) (insert_entry cmp rows k v) ≡ cond (is_at (cmp q) k) (Some v) (lookup (is_at (cmp q)) rows)
lookup-insert_entry cmp o k q v [] = refl
lookup-insert_entry cmp o k q v ((a, x) ∷ rows) = insert_step cmp o k q a v x rows (lookup-insert_entry cmp o k q v rows) (cmp k a) refl

remove_equal : {X : Type 0} (x : X) (rest : Option X) (b : Bool) → (b ≡ true → rest ≡ None) → rest ≡ cond b None (cond b (Some x) rest)
remove_equal x rest true h = h refl
remove_equal x rest false h = refl

remove_other : {K X : Type 0} (cmp : K → K → Ordering) → IsTotalOrder cmp → (k q a : K) (x : X) (rest : Option X) → (cmp k a ≡ Equal → true ≡ false)
    → (b c : Bool) → is_at (cmp q) k ≡ b → is_at (cmp q) a ≡ c
    → cond c (Some x) (cond b None rest) ≡ cond b None (cond c (Some x) rest)
remove_other cmp o k q a x rest apart true true hb hc = let tied : true ≡ false = apart (tied_through cmp o q k a hb hc) in absurd cc
remove_other cmp o k q a x rest apart true false hb hc = refl
remove_other cmp o k q a x rest apart false c hb hc = refl

none_rest : {K X : Type 0} (cmp : K → K → Ordering) → IsTotalOrder cmp → (k q a : K) (x : X) (rows : List (K × X)) → IsStrictlySortedBy cmp (keys_of ((a, x) ∷ rows)) → cmp k a ≡ Equal → is_at (cmp q) k ≡ true
    → lookup (is_at (cmp q)) rows ≡ None
none_rest cmp o k q a x rows s e h = lookup_above cmp q rows (rest_above cmp o q a (keys_of rows) s (o.congr q k a (is_equal _ h) ∙ e))

remove_step : {K X : Type 0} (cmp : K → K → Ordering) → IsTotalOrder cmp → (k q a : K) (x : X) (rows : List (K × X)) → IsStrictlySortedBy cmp (keys_of ((a, x) ∷ rows))
    → lookup (is_at (cmp q)) (remove_entry (is_at (cmp k)) rows) ≡ cond (is_at (cmp q) k) None (lookup (is_at (cmp q)) rows)
    → (r : Ordering) → cmp k a ≡ r
    → lookup (is_at (cmp q)) (remove_entry (is_at (cmp k)) ((a, x) ∷ rows)) ≡ cond (is_at (cmp q) k) None (lookup (is_at (cmp q)) ((a, x) ∷ rows))
remove_step cmp o k q a x rows s ih Less e = rw (e, ih) (remove_other cmp o k q a x (lookup (is_at (cmp q)) rows) (λ h. let no : Less ≡ Equal = sym e ∙ h in absurd cc) (is_at (cmp q) k) (is_at (cmp q) a) refl refl)
remove_step cmp o k q a x rows s ih Equal e = rw (e, cmp_tied cmp o q k a e) (remove_equal x (lookup (is_at (cmp q)) rows) (is_at (cmp q) k) (none_rest cmp o k q a x rows s e))
remove_step cmp o k q a x rows s ih Greater e = rw (e, ih) (remove_other cmp o k q a x (lookup (is_at (cmp q)) rows) (λ h. let no : Greater ≡ Equal = sym e ∙ h in absurd cc) (is_at (cmp q) k) (is_at (cmp q) a) refl refl)

either_way : {X : Type 0} (x : X) (b : Bool) → x ≡ cond b x x
either_way x true = refl
either_way x false = refl

-- what is found after a removal
pub lookup-remove_entry : {K X : Type 0} (cmp : K → K → Ordering) → IsTotalOrder cmp → (k q : K) (rows : List (K × X)) → IsStrictlySortedBy cmp (keys_of rows)
    → lookup (is_at (cmp q)) (remove_entry (is_at (cmp k)) rows) ≡ cond (is_at (cmp q) k) None (lookup (is_at (cmp q)) rows)
lookup-remove_entry cmp o k q [] s = either_way None (is_at (cmp q) k)
lookup-remove_entry cmp o k q ((a, x) ∷ rows) s = remove_step cmp o k q a x rows s (lookup-remove_entry cmp o k q rows (sorted_tail cmp a (keys_of rows) s)) (cmp k a) refl

-- what is found after a change
pub lookup-rows_after : {K V : Type 0} (cmp : K → K → Ordering) → IsTotalOrder cmp → (q : K) (rows : List (K × V)) (edit : Edit K V) → IsStrictlySortedBy cmp (keys_of rows)
    → lookup (is_at (cmp q)) (rows_after cmp rows edit) ≡ cond (is_at (cmp q) (key_of edit)) (row_of edit) (lookup (is_at (cmp q)) rows)
lookup-rows_after cmp o q rows (Put key row) s = lookup-insert_entry cmp o key q row rows
lookup-rows_after cmp o q rows (Take key) s = lookup-remove_entry cmp o key q rows s

found_head : {K X : Type 0} (cmp : K → K → Ordering) → IsTotalOrder cmp → (a : K) (x : X) (rows : List (K × X)) → Some x ≡ lookup (is_at (cmp a)) ((a, x) ∷ rows)
found_head cmp o a x rows = rw (tied_itself o a) refl

below_head : {K X : Type 0} (cmp : K → K → Ordering) → IsTotalOrder cmp → (a b : K) (x y : X) (xs ys : List (K × X)) → IsStrictlySortedBy cmp (keys_of ((b, y) ∷ ys)) → cmp a b ≡ Less
    → lookup (is_at (cmp a)) ((a, x) ∷ xs) ≡ lookup (is_at (cmp a)) ((b, y) ∷ ys) → true ≡ false
below_head cmp o a b x y xs ys t e h =
    let no : Some x ≡ None = found_head cmp o a x xs ∙ h ∙ lookup_above cmp a ((b, y) ∷ ys) (all_above cmp o a b (keys_of ys) t e) in absurd cc

same_tail : {K X : Type 0} (cmp : K → K → Ordering) → IsTotalOrder cmp → (a b : K) (x y : X) (xs ys : List (K × X)) → IsStrictlySortedBy cmp (keys_of ((a, x) ∷ xs)) → IsStrictlySortedBy cmp (keys_of ((b, y) ∷ ys))
    → cmp a b ≡ Equal → (q : K) → lookup (is_at (cmp q)) ((a, x) ∷ xs) ≡ lookup (is_at (cmp q)) ((b, y) ∷ ys)
    → (c : Bool) → is_at (cmp q) a ≡ c → lookup (is_at (cmp q)) xs ≡ lookup (is_at (cmp q)) ys
same_tail cmp o a b x y xs ys s t e q h true is =
    let at_a = is_equal _ is in
    lookup_above cmp q xs (rest_above cmp o q a (keys_of xs) s at_a) ∙ sym (lookup_above cmp q ys (rest_above cmp o q b (keys_of ys) t (o.congr q a b at_a ∙ e)))
same_tail cmp o a b x y xs ys s t e q h false is =
    let at_b : is_at (cmp q) b ≡ false = ap is_eq (cmp_tied cmp o q a b e) ∙ is in
    rw (is, at_b) at h

same_step : {K X : Type 0} (cmp : K → K → Ordering) → IsTotalOrder cmp → ((x y : K) → cmp x y ≡ Equal → x ≡ y) → (a b : K) (x y : X) (xs ys : List (K × X))
    → IsStrictlySortedBy cmp (keys_of ((a, x) ∷ xs)) → IsStrictlySortedBy cmp (keys_of ((b, y) ∷ ys))
    → (((q : K) → lookup (is_at (cmp q)) xs ≡ lookup (is_at (cmp q)) ys) → xs ≡ ys)
    → ((q : K) → lookup (is_at (cmp q)) ((a, x) ∷ xs) ≡ lookup (is_at (cmp q)) ((b, y) ∷ ys))
    → (r : Ordering) → cmp a b ≡ r → (a, x) ∷ xs ≡ (b, y) ∷ ys
same_step cmp o same a b x y xs ys s t ih h Less e = let no : true ≡ false = below_head cmp o a b x y xs ys t e (h a) in absurd cc
same_step cmp o same a b x y xs ys s t ih h Equal e =
    let key : a ≡ b = same a b e in
    let found : Some x ≡ Some y = found_head cmp o a x xs ∙ h a ∙ rw e refl in
    let row : x ≡ y = cc in
    let rest : xs ≡ ys = ih (λ q. same_tail cmp o a b x y xs ys s t e q (h q) (is_at (cmp q) a) refl) in
    cc
same_step cmp o same a b x y xs ys s t ih h Greater e =
    let less : cmp b a ≡ Less = o.antisymm b a ∙ ap ordering_reverse e in
    let no : true ≡ false = below_head cmp o b a y x ys xs s less (sym (h b)) in absurd cc

-- lists in order in which each look-up finds the same are the same
pub rows_from_look_ups : {K X : Type 0} (cmp : K → K → Ordering) → IsTotalOrder cmp → ((x y : K) → cmp x y ≡ Equal → x ≡ y) → (xs ys : List (K × X))
    → IsStrictlySortedBy cmp (keys_of xs) → IsStrictlySortedBy cmp (keys_of ys)
    → ((q : K) → lookup (is_at (cmp q)) xs ≡ lookup (is_at (cmp q)) ys) → xs ≡ ys
rows_from_look_ups cmp o same [] [] s t h = refl
rows_from_look_ups cmp o same [] ((b, y) ∷ ys) s t h = let no : Some y ≡ None = found_head cmp o b y ys ∙ sym (h b) in absurd cc
rows_from_look_ups cmp o same ((a, x) ∷ xs) [] s t h = let no : Some x ≡ None = found_head cmp o a x xs ∙ h a in absurd cc
rows_from_look_ups cmp o same ((a, x) ∷ xs) ((b, y) ∷ ys) s t h =
    same_step cmp o same a b x y xs ys s t (rows_from_look_ups cmp o same xs ys (sorted_tail cmp a (keys_of xs) s) (sorted_tail cmp b (keys_of ys) t)) h (cmp a b) refl
