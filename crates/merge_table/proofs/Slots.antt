-- The rows of a list of slots, as its slots change.
use Rattle.std.proofs.Common.{◌≡◌, ◌||◌, Bool, true, false, All, IsTrue, List, [], ◌∷◌, Some, None, refl, sym, ap, ◌∙◌, arith}
use Rattle.std.specs.declared.option.Option.{Option}
use Rattle.std.specs.Option.{option_flatten}
use Rattle.std.specs.declared.cmp.Ordering.{Ordering}
use Rattle.std.specs.declared.cmp.Ordering.TheVariants.{Less, Equal, Greater}
use Rattle.std.specs.Cmp.{IsTotalOrder}
use Rattle.std.specs.List.Sorted.{IsStrictlySortedBy}
use Rattle.std.specs.Map.{keys_of, lookup, set_value, remove_entry}
use Rattle.std.specs.Set.{remove_key}
use Rattle.std.specs.BTreeMap.{is_at, insert_entry}
use Rattle.std.specs.BTreeSet.{insert_key}
use Rattle.std.proofs.lemmas.Map.Keys.{sorted_tail}
use Rattle.merge_table.specs.Contents.{rows_of, with_slot, has_room}
use Rattle.std.specs.Ordering.{is_eq}
use Rattle.std.proofs.lemmas.Cmp.{tied_itself}
use Rattle.std.proofs.lemmas.List.Elements.{All-cons}
use Rattle.merge_table.proofs.Room.{or_right, AreAbove, all_above, rest_above, room_not_below}

pub lookup_above : {K X : Type 0} (cmp : K → K → Ordering) (k : K) (es : List (K × X)) → AreAbove cmp k (keys_of es) → lookup (is_at (cmp k)) es ≡ None
lookup_above cmp k [] h = refl
lookup_above cmp k (e ∷ es) h = rw h.0 (lookup_above cmp k es h.1)

pub lookup-rows_above : {K V : Type 0} (cmp : K → K → Ordering) (k : K) (es : List (K × Option V)) → AreAbove cmp k (keys_of es) → lookup (is_at (cmp k)) (rows_of es) ≡ None
lookup-rows_above cmp k [] h = refl
lookup-rows_above cmp k ((a, None) ∷ es) h = lookup-rows_above cmp k es h.1
lookup-rows_above cmp k ((a, Some v) ∷ es) h = rw h.0 (lookup-rows_above cmp k es h.1)

pub remove-rows_above : {K V : Type 0} (cmp : K → K → Ordering) (k : K) (es : List (K × Option V)) → AreAbove cmp k (keys_of es) → remove_entry (is_at (cmp k)) (rows_of es) ≡ rows_of es
remove-rows_above cmp k [] h = refl
remove-rows_above cmp k ((a, None) ∷ es) h = remove-rows_above cmp k es h.1
remove-rows_above cmp k ((a, Some v) ∷ es) h = rw h.0 (ap (λ l. (a, v) ∷ l) (remove-rows_above cmp k es h.1))

pub insert-rows_above : {K V : Type 0} (cmp : K → K → Ordering) (k : K) (v : V) (es : List (K × Option V)) → AreAbove cmp k (keys_of es) → insert_entry cmp (rows_of es) k v ≡ (k, v) ∷ rows_of es
insert-rows_above cmp k v [] h = refl
insert-rows_above cmp k v ((a, None) ∷ es) h = insert-rows_above cmp k v es h.1
insert-rows_above cmp k v ((a, Some w) ∷ es) h = rw h.0 refl

lookup_step : {K V : Type 0} (cmp : K → K → Ordering) → IsTotalOrder cmp → (k a : K) (x : Option V) (es : List (K × Option V)) → IsStrictlySortedBy cmp (keys_of ((a, x) ∷ es))
    → lookup (is_at (cmp k)) (rows_of es) ≡ option_flatten (lookup (is_at (cmp k)) es)
    → (r : Ordering) → cmp k a ≡ r
    → lookup (is_at (cmp k)) (rows_of ((a, x) ∷ es)) ≡ option_flatten (lookup (is_at (cmp k)) ((a, x) ∷ es))
lookup_step cmp o k a None es s ih Less e = rw e ih
lookup_step cmp o k a (Some v) es s ih Less e = rw e ih
lookup_step cmp o k a None es s ih Equal e = rw e (lookup-rows_above cmp k es (rest_above cmp o k a (keys_of es) s e))
lookup_step cmp o k a (Some v) es s ih Equal e = rw e refl
lookup_step cmp o k a None es s ih Greater e = rw e ih
lookup_step cmp o k a (Some v) es s ih Greater e = rw e ih

-- the row at a key is what its slot holds
pub lookup-rows : {K V : Type 0} (cmp : K → K → Ordering) → IsTotalOrder cmp → (k : K) (es : List (K × Option V)) → IsStrictlySortedBy cmp (keys_of es)
    → lookup (is_at (cmp k)) (rows_of es) ≡ option_flatten (lookup (is_at (cmp k)) es)
lookup-rows cmp o k [] s = refl
lookup-rows cmp o k ((a, x) ∷ es) s = lookup_step cmp o k a x es s (lookup-rows cmp o k es (sorted_tail cmp a (keys_of es) s)) (cmp k a) refl

insert_step : {K V : Type 0} (cmp : K → K → Ordering) → IsTotalOrder cmp → ((x y : K) → cmp x y ≡ Equal → x ≡ y) → (k a : K) (v : V) (x : Option V) (es : List (K × Option V))
    → IsStrictlySortedBy cmp (keys_of ((a, x) ∷ es))
    → rows_of (insert_entry cmp es k (Some v)) ≡ insert_entry cmp (rows_of es) k v
    → (r : Ordering) → cmp k a ≡ r
    → rows_of (insert_entry cmp ((a, x) ∷ es) k (Some v)) ≡ insert_entry cmp (rows_of ((a, x) ∷ es)) k v
insert_step cmp o same k a v x es s ih Less e = rw e (sym (insert-rows_above cmp k v ((a, x) ∷ es) (all_above cmp o k a (keys_of es) s e)))
insert_step cmp o same k a v None es s ih Equal e = rw e (ap (λ q. (q, v) ∷ rows_of es) (sym (same k a e)) ∙ sym (insert-rows_above cmp k v es (rest_above cmp o k a (keys_of es) s e)))
insert_step cmp o same k a v (Some w) es s ih Equal e = rw e refl
insert_step cmp o same k a v None es s ih Greater e = rw e ih
insert_step cmp o same k a v (Some w) es s ih Greater e = rw e (ap (λ l. (a, w) ∷ l) ih)

-- a slot with a row inserts the row
pub rows-insert : {K V : Type 0} (cmp : K → K → Ordering) → IsTotalOrder cmp → ((x y : K) → cmp x y ≡ Equal → x ≡ y) → (k : K) (v : V) (es : List (K × Option V)) → IsStrictlySortedBy cmp (keys_of es)
    → rows_of (insert_entry cmp es k (Some v)) ≡ insert_entry cmp (rows_of es) k v
rows-insert cmp o same k v [] s = refl
rows-insert cmp o same k v ((a, x) ∷ es) s = insert_step cmp o same k a v x es s (rows-insert cmp o same k v es (sorted_tail cmp a (keys_of es) s)) (cmp k a) refl

set_step : {K X : Type 0} (cmp : K → K → Ordering) → IsTotalOrder cmp → (k a : K) (w x : X) (es : List (K × X)) → IsStrictlySortedBy cmp (keys_of ((a, x) ∷ es))
    → (has_room cmp (keys_of es) k ≡ true → set_value (is_at (cmp k)) es w ≡ insert_entry cmp es k w)
    → has_room cmp (a ∷ keys_of es) k ≡ true
    → (r : Ordering) → cmp k a ≡ r
    → set_value (is_at (cmp k)) ((a, x) ∷ es) w ≡ insert_entry cmp ((a, x) ∷ es) k w
set_step cmp o k a w x es s ih p Less e = let q : true ≡ false = room_not_below cmp o k a (keys_of es) s p e in absurd cc
set_step cmp o k a w x es s ih p Equal e = rw e refl
set_step cmp o k a w x es s ih p Greater e = rw e (ap (λ l. (a, x) ∷ l) (ih (rw e at p)))

-- in a list with the key, setting its value is inserting it
pub set-insert : {K X : Type 0} (cmp : K → K → Ordering) → IsTotalOrder cmp → (k : K) (w : X) (es : List (K × X)) → IsStrictlySortedBy cmp (keys_of es) → has_room cmp (keys_of es) k ≡ true
    → set_value (is_at (cmp k)) es w ≡ insert_entry cmp es k w
set-insert cmp o k w [] s p = absurd cc
set-insert cmp o k w ((a, x) ∷ es) s p = set_step cmp o k a w x es s (set-insert cmp o k w es (sorted_tail cmp a (keys_of es) s)) p (cmp k a) refl

-- a row put into a slot is inserted
pub rows-set : {K V : Type 0} (cmp : K → K → Ordering) → IsTotalOrder cmp → ((x y : K) → cmp x y ≡ Equal → x ≡ y) → (k : K) (v : V) (es : List (K × Option V)) → IsStrictlySortedBy cmp (keys_of es)
    → has_room cmp (keys_of es) k ≡ true → rows_of (set_value (is_at (cmp k)) es (Some v)) ≡ insert_entry cmp (rows_of es) k v
rows-set cmp o same k v es s p = ap rows_of (set-insert cmp o k (Some v) es s p) ∙ rows-insert cmp o same k v es s

room_step : {K V : Type 0} (cmp : K → K → Ordering) (k a : K) (x : Option V) (es : List (K × Option V))
    → (has_room cmp (keys_of es) k ≡ false → rows_of (insert_entry cmp es k None) ≡ rows_of es)
    → has_room cmp (a ∷ keys_of es) k ≡ false
    → (r : Ordering) → cmp k a ≡ r
    → rows_of (insert_entry cmp ((a, x) ∷ es) k None) ≡ rows_of ((a, x) ∷ es)
room_step cmp k a x es ih h Less e = rw e refl
room_step cmp k a x es ih h Equal e = let q : true ≡ false = rw e at h in absurd cc
room_step cmp k a x es ih h Greater e = rw e (ap (with_slot a x) (ih (rw e at h)))

-- a new slot has no row
pub rows-room : {K V : Type 0} (cmp : K → K → Ordering) (k : K) (es : List (K × Option V)) → has_room cmp (keys_of es) k ≡ false → rows_of (insert_entry cmp es k None) ≡ rows_of es
rows-room cmp k [] h = refl
rows-room cmp k ((a, x) ∷ es) h = room_step cmp k a x es (rows-room cmp k es) h (cmp k a) refl

remove_step : {K V : Type 0} (cmp : K → K → Ordering) → IsTotalOrder cmp → (k a : K) (x : Option V) (es : List (K × Option V)) → IsStrictlySortedBy cmp (keys_of ((a, x) ∷ es))
    → rows_of (remove_entry (is_at (cmp k)) es) ≡ remove_entry (is_at (cmp k)) (rows_of es)
    → (r : Ordering) → cmp k a ≡ r
    → rows_of (remove_entry (is_at (cmp k)) ((a, x) ∷ es)) ≡ remove_entry (is_at (cmp k)) (rows_of ((a, x) ∷ es))
remove_step cmp o k a None es s ih Less e = rw e ih
remove_step cmp o k a (Some v) es s ih Less e = rw e (ap (λ l. (a, v) ∷ l) ih)
remove_step cmp o k a None es s ih Equal e = rw e (sym (remove-rows_above cmp k es (rest_above cmp o k a (keys_of es) s e)))
remove_step cmp o k a (Some v) es s ih Equal e = rw e refl
remove_step cmp o k a None es s ih Greater e = rw e ih
remove_step cmp o k a (Some v) es s ih Greater e = rw e (ap (λ l. (a, v) ∷ l) ih)

-- without a slot, its row is gone
pub rows-remove : {K V : Type 0} (cmp : K → K → Ordering) → IsTotalOrder cmp → (k : K) (es : List (K × Option V)) → IsStrictlySortedBy cmp (keys_of es)
    → rows_of (remove_entry (is_at (cmp k)) es) ≡ remove_entry (is_at (cmp k)) (rows_of es)
rows-remove cmp o k [] s = refl
rows-remove cmp o k ((a, x) ∷ es) s = remove_step cmp o k a x es s (rows-remove cmp o k es (sorted_tail cmp a (keys_of es) s)) (cmp k a) refl

unset_step : {K V : Type 0} (cmp : K → K → Ordering) (k a : K) (x : Option V) (es : List (K × Option V))
    → rows_of (set_value (is_at (cmp k)) es None) ≡ rows_of (remove_entry (is_at (cmp k)) es)
    → (r : Ordering) → cmp k a ≡ r
    → rows_of (set_value (is_at (cmp k)) ((a, x) ∷ es) None) ≡ rows_of (remove_entry (is_at (cmp k)) ((a, x) ∷ es))
unset_step cmp k a x es ih Less e = rw e (ap (with_slot a x) ih)
unset_step cmp k a x es ih Equal e = rw e refl
unset_step cmp k a x es ih Greater e = rw e (ap (with_slot a x) ih)

-- an emptied slot has the rows of none
pub rows-unset : {K V : Type 0} (cmp : K → K → Ordering) (k : K) (es : List (K × Option V)) → rows_of (set_value (is_at (cmp k)) es None) ≡ rows_of (remove_entry (is_at (cmp k)) es)
rows-unset cmp k [] = refl
rows-unset cmp k ((a, x) ∷ es) = unset_step cmp k a x es (rows-unset cmp k es) (cmp k a) refl

keys_step : {K X : Type 0} (cmp : K → K → Ordering) (k a : K) (w x : X) (es : List (K × X)) → keys_of (insert_entry cmp es k w) ≡ insert_key cmp (keys_of es) k
    → (r : Ordering) → cmp k a ≡ r → keys_of (insert_entry cmp ((a, x) ∷ es) k w) ≡ insert_key cmp (a ∷ keys_of es) k
keys_step cmp k a w x es ih Less e = rw e refl
keys_step cmp k a w x es ih Equal e = rw e refl
keys_step cmp k a w x es ih Greater e = rw e (ap (λ l. a ∷ l) ih)

pub keys-insert_entry : {K X : Type 0} (cmp : K → K → Ordering) (k : K) (w : X) (es : List (K × X)) → keys_of (insert_entry cmp es k w) ≡ insert_key cmp (keys_of es) k
keys-insert_entry cmp k w [] = refl
keys-insert_entry cmp k w ((a, x) ∷ es) = keys_step cmp k a w x es (keys-insert_entry cmp k w es) (cmp k a) refl

keys_cut : {K X : Type 0} (test : K → Bool) (e : K × X) (es : List (K × X)) → keys_of (remove_entry test es) ≡ remove_key test (keys_of es)
    → (b : Bool) → test e.0 ≡ b → keys_of (remove_entry test (e ∷ es)) ≡ remove_key test (keys_of (e ∷ es))
keys_cut test e es ih true h = rw h refl
keys_cut test e es ih false h = rw h (ap (λ l. e.0 ∷ l) ih)

pub keys-remove_entry : {K X : Type 0} (test : K → Bool) (es : List (K × X)) → keys_of (remove_entry test es) ≡ remove_key test (keys_of es)
keys-remove_entry test [] = refl
keys-remove_entry test (e ∷ es) = keys_cut test e es (keys-remove_entry test es) (test e.0) refl

set_none_step : {K X : Type 0} (test : K → Bool) (e : K × X) (es : List (K × X)) (w : X) → (lookup test es ≡ None → set_value test es w ≡ es) → lookup test (e ∷ es) ≡ None
    → (b : Bool) → test e.0 ≡ b → set_value test (e ∷ es) w ≡ e ∷ es
set_none_step test e es w ih h true is = let q : Some e.1 ≡ None = rw is at h in absurd cc
set_none_step test e es w ih h false is = rw is (ap (λ l. e ∷ l) (ih (rw is at h)))

-- setting the value of no entry changes nothing
pub set_value_none : {K X : Type 0} (test : K → Bool) (es : List (K × X)) (w : X) → lookup test es ≡ None → set_value test es w ≡ es
set_value_none test [] w h = refl
set_value_none test (e ∷ es) w h = set_none_step test e es w (set_value_none test es w) h (test e.0) refl

room_more : {K V : Type 0} (cmp : K → K → Ordering) (a : K) (slots : List K) (rows : List (K × V)) → All (λ row. IsTrue (has_room cmp slots row.0)) rows → All (λ row. IsTrue (has_room cmp (a ∷ slots) row.0)) rows
room_more cmp a slots rows h = λ k d less. or_right _ _ (h k d less)

room_here : {K V : Type 0} (cmp : K → K → Ordering) → IsTotalOrder cmp → (a : K) (v : V) (slots : List K) (rows : List (K × V)) → All (λ row. IsTrue (has_room cmp (a ∷ slots) row.0)) rows
    → All (λ row. IsTrue (has_room cmp (a ∷ slots) row.0)) ((a, v) ∷ rows)
room_here cmp o a v slots rows h = All-cons (λ row. IsTrue (has_room cmp (a ∷ slots) row.0)) (a, v) rows (ap (λ r. is_eq r || has_room cmp slots a) (tied_itself o a)) h

-- the key of each row has a slot
pub rows-room_all : {K V : Type 0} (cmp : K → K → Ordering) → IsTotalOrder cmp → (es : List (K × Option V)) → All (λ row. IsTrue (has_room cmp (keys_of es) row.0)) (rows_of es)
rows-room_all cmp o [] = λ k d less. absurd (omega (arith, less))
rows-room_all cmp o ((a, None) ∷ es) = room_more cmp a (keys_of es) (rows_of es) (rows-room_all cmp o es)
rows-room_all cmp o ((a, Some v) ∷ es) = room_here cmp o a v (keys_of es) (rows_of es) (room_more cmp a (keys_of es) (rows_of es) (rows-room_all cmp o es))
