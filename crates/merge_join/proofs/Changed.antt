-- The keys of a table of entries after its changes.
use Rattle.std.proofs.Common.{◌≡◌, Bool, true, false, cond, ◌||◌, List, [], ◌∷◌, ◌++◌, map, refl, sym, ap, ◌∙◌, subst}
use Rattle.std.specs.List.{list_any}
use Rattle.std.specs.List.Sorted.{IsStrictlySortedBy}
use Rattle.std.specs.Map.{keys_of, remove_entry}
use Rattle.std.specs.BTreeMap.{is_at, insert_entry}
use Rattle.std.specs.BTreeSet.{insert_key}
use Rattle.std.specs.Set.{remove_key}
use Rattle.merge_table.specs.declared.edit.Edit.{Edit}
use Rattle.merge_table.specs.declared.edit.Edit.TheVariants.{Put, Take}
use Rattle.merge_table.specs.Edits.{rows_after, rows_after_all}
use Rattle.merge_table.proofs.Room.{has_room-insert_key}
use Rattle.merge_table.proofs.Slots.{keys-insert_entry, keys-remove_entry}
use Rattle.merge_table.proofs.Sorted.{sorted_after}
use Rattle.merge_join.specs.declared.entry.JoinEntry.{JoinEntry}
use Rattle.merge_join.specs.Entries.{entry_cmp}
use Rattle.merge_join.specs.Index.{has, puts, set_after, set_after_all}
use Rattle.merge_join.proofs.Members.{entry_total}

keys_after : {V : Type 0} (rows : List (JoinEntry × V)) (change : Edit JoinEntry V) → keys_of (rows_after entry_cmp rows change) ≡ set_after (keys_of rows) change
keys_after rows (Put e v) = keys-insert_entry entry_cmp e v rows
keys_after rows (Take e) = keys-remove_entry (is_at (entry_cmp e)) rows

pub keys_after_all : {V : Type 0} (rows : List (JoinEntry × V)) (changes : List (Edit JoinEntry V)) → keys_of (rows_after_all entry_cmp rows changes) ≡ set_after_all (keys_of rows) changes
keys_after_all rows [] = refl
keys_after_all rows (change ∷ changes) = keys_after_all (rows_after entry_cmp rows change) changes ∙ ap (λ (set : List JoinEntry). set_after_all set changes) (keys_after rows change)

abbrev units : List JoinEntry → List (JoinEntry × Unit {0})
units [] = []
units (e ∷ es) = (e, tt) ∷ units es

keys_of-units : (set : List JoinEntry) → keys_of (units set) ≡ set
keys_of-units [] = refl
keys_of-units (e ∷ es) = ap (λ (ks : List JoinEntry). e ∷ ks) (keys_of-units es)

-- a set stays in order through its changes
pub sorted-set : {V : Type 0} (set : List JoinEntry) (change : Edit JoinEntry V) → IsStrictlySortedBy entry_cmp set → IsStrictlySortedBy entry_cmp (set_after set change)
sorted-set set (Put e v) sorted =
    subst (IsStrictlySortedBy entry_cmp) (keys-insert_entry entry_cmp e tt (units set) ∙ ap (λ (ks : List JoinEntry). insert_key entry_cmp ks e) (keys_of-units set))
    (sorted_after entry_cmp entry_total (units set) (Put e tt) (subst (IsStrictlySortedBy entry_cmp) (sym (keys_of-units set)) sorted))
sorted-set set (Take e) sorted =
    subst (IsStrictlySortedBy entry_cmp) (keys-remove_entry (is_at (entry_cmp e)) (units set) ∙ ap (remove_key (is_at (entry_cmp e))) (keys_of-units set))
    (sorted_after entry_cmp entry_total (units set) (Take e) (subst (IsStrictlySortedBy entry_cmp) (sym (keys_of-units set)) sorted))

pub sorted-set_all : {V : Type 0} (set : List JoinEntry) (changes : List (Edit JoinEntry V)) → IsStrictlySortedBy entry_cmp set → IsStrictlySortedBy entry_cmp (set_after_all set changes)
sorted-set_all set [] sorted = sorted
sorted-set_all set (change ∷ changes) sorted = sorted-set_all (set_after set change) changes (sorted-set set change sorted)

-- the entries after one change more
pub set_after_all-push : {V : Type 0} (set : List JoinEntry) (changes : List (Edit JoinEntry V)) (change : Edit JoinEntry V) → set_after_all set (changes ++ change ∷ []) ≡ set_after (set_after_all set changes) change
set_after_all-push set [] change = refl
set_after_all-push set (first ∷ changes) change = set_after_all-push (set_after set first) changes change

or_swap : (a b : Bool) → (a || b) ≡ true → (b || a) ≡ true
or_swap true true h = refl
or_swap true false h = refl
or_swap false true h = refl
or_swap false false h = h

or_left : (a b : Bool) → a ≡ true → (a || b) ≡ true
or_left true b h = refl
or_left false b h = absurd cc

or_more : (a b : Bool) → b ≡ true → (a || b) ≡ true
or_more true b h = refl
or_more false b h = h

less_step : (test : JoinEntry → Bool) (x : JoinEntry) (xs left : List JoinEntry) (q : JoinEntry) → (has left q ≡ true → has xs q ≡ true) → (b : Bool) → has (cond b xs (x ∷ left)) q ≡ true → (is_at (entry_cmp q) x || has xs q) ≡ true
less_step test x xs left q ih true h = or_more (is_at (entry_cmp q) x) (has xs q) h
less_step test x xs left q ih false h = elim (is_at (entry_cmp q) x) as (λ b. (b || has left q) ≡ true → (b || has xs q) ≡ true) [ true ↦ λ g. refl | false ↦ ih ] h

-- what is there after a removal was there
has-less : (test : JoinEntry → Bool) (set : List JoinEntry) (q : JoinEntry) → has (remove_key test set) q ≡ true → has set q ≡ true
has-less test [] q h = h
has-less test (x ∷ xs) q h = less_step test x xs (remove_key test xs) q (has-less test xs q) (test x) h

put_or_there : {V : Type 0} (set : List JoinEntry) (change : Edit JoinEntry V) (q : JoinEntry) → has (set_after set change) q ≡ true → (has set q || puts q change) ≡ true
put_or_there set (Put e v) q h = or_swap (is_at (entry_cmp q) e) (has set q) (sym (has_room-insert_key entry_cmp entry_total e q set) ∙ h)
put_or_there set (Take e) q h = or_left (has set q) false (has-less (is_at (entry_cmp e)) set q h)

join_ors : (now before one later : Bool) → (now ≡ true → (before || one) ≡ true) → (now || later) ≡ true → (before || (one || later)) ≡ true
join_ors now true one later was h = refl
join_ors now false true later was h = refl
join_ors true false false later was h = let bad : false ≡ true = was refl in absurd cc
join_ors false false false later was h = h

-- what is there after changes was there, or is put in by one of them
pub put-or_there : {V : Type 0} (set : List JoinEntry) (changes : List (Edit JoinEntry V)) (q : JoinEntry) → has (set_after_all set changes) q ≡ true → (has set q || list_any (puts q) changes) ≡ true
put-or_there set [] q h = or_left (has set q) false h
put-or_there set (change ∷ changes) q h =
    join_ors (has (set_after set change) q) (has set q) (puts q change) (list_any (puts q) changes) (put_or_there set change q) (put-or_there (set_after set change) changes q h)
